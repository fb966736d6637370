-- A layout repeated. Assumes nothing.
use Rattle.std.proofs.Common.{◌≡◌, sym, ap, ◌∙◌, List, ◌++◌, append_assoc, append-nil, ℕ, zero, suc, ◌+◌, ◌-◌, ◌*◌, ◌≤◌, ◌<◌, add-one, arith, length, get_or, set, take, drop, length-append, drop_of_length-le, take-append-drop, drop-cons, take-suc, get_or-append-add, get_or-take, take_at, take_all, length-take-le}
use lib.ListN.{get_or-append}
use lib.Seq.{append_snoc, set_at}
use Rattle.placing.specs.Rule.{rep}

module _ {A : Type 0} (xs : List A) where
  pub length-rep : (r : ℕ) → length (rep r xs) ≡ r * length xs
  unfolding rep
  length-rep zero = omega arith
  length-rep (suc r) = length-append xs (rep r xs) ∙ omega (arith, length-rep r)

  rep_snoc : (r : ℕ) → rep (suc r) xs ≡ rep r xs ++ xs
  unfolding rep
  rep_snoc zero = append-nil xs
  rep_snoc (suc r) = ap (λ (l : List A). xs ++ l) (rep_snoc r) ∙ sym (append_assoc xs (rep r xs) xs)

  -- each copy is the one before
  rep_again : (r j : ℕ) (d : A) → length xs + j < r * length xs → get_or (rep r xs) (length xs + j) d ≡ get_or (rep r xs) j d
  unfolding rep
  rep_again zero j d h = absurd (omega arith)
  rep_again (suc r) j d h =
      let l : j < length (rep r xs) = omega (arith, length-rep r) in
      get_or-append-add xs (rep r xs) j d ∙ sym (rw (rep_snoc r) (get_or-append (rep r xs) xs d j l))

-- the copying loop: its start, a turn, its end
pub repeat_start : (cells : List ℕ) (w r : ℕ) → 0 < w → w ≤ length cells → length cells ≡ r * w → cells ≡ take w (rep r (take w cells)) ++ drop w cells
unfolding rep
repeat_start cells w zero z l e = absurd (omega arith)
repeat_start cells w (suc r) z l e =
    let wide : length (take w cells) ≡ w = length-take-le w cells l in
    sym (ap (λ (x : List ℕ). x ++ drop w cells) (take_at (take w cells) (rep r (take w cells)) w wide) ∙ take-append-drop w cells)

pub repeat_turn : (cells : List ℕ) (w r k : ℕ) → 0 < w → w ≤ k → k < length cells → length cells ≡ r * w
    → (at : List ℕ) → at ≡ take k (rep r (take w cells)) ++ drop k cells
    → set at k (get_or at (k - w) 0) ≡ take (k + 1) (rep r (take w cells)) ++ drop (k + 1) cells
repeat_turn cells w r k z l h e at q =
    let xs = take w cells in
    let wide : length xs ≡ w = length-take-le w cells (omega arith) in
    let all : length (rep r xs) ≡ length cells = length-rep xs r ∙ ap (λ (n : ℕ). r * n) wide ∙ sym e in
    let front : length (take k (rep r xs)) ≡ k = length-take-le k (rep r xs) (omega arith) in
    let back : w + (k - w) ≡ k = omega arith in
    let cell : get_or (take k (rep r xs) ++ drop k cells) (k - w) 0 ≡ get_or (rep r xs) k 0 =
    get_or-append (take k (rep r xs)) (drop k cells) 0 (k - w) (omega arith)
    ∙ get_or-take k (rep r xs) (k - w) 0 (omega arith)
    ∙ sym (rep_again xs r (k - w) 0 (omega (arith, ap (λ (n : ℕ). r * n) wide)))
    ∙ ap (λ (n : ℕ). get_or (rep r xs) n 0) (ap (λ (n : ℕ). n + (k - w)) wide ∙ back) in
    rw q (rw (cell, drop-cons cells k 0 h)
    (set_at (take k (rep r xs)) (get_or cells k 0) (drop (suc k) cells) (get_or (rep r xs) k 0) k front
    ∙ sym (append_snoc (take k (rep r xs)) (get_or (rep r xs) k 0) (drop (suc k) cells))
    ∙ rw (add-one, take-suc (rep r xs) k 0 (omega arith))))

pub repeat_end : (cells : List ℕ) (w r k : ℕ) → 0 < w → w ≤ length cells → length cells ≤ k → length cells ≡ r * w
    → rep r (take w cells) ≡ take k (rep r (take w cells)) ++ drop k cells
repeat_end cells w r k z l h e =
    let wide : length (take w cells) ≡ w = length-take-le w cells l in
    let all : length (rep r (take w cells)) ≡ length cells = length-rep (take w cells) r ∙ ap (λ (n : ℕ). r * n) wide ∙ sym e in
    sym (rw (take_all k (rep r (take w cells)) (omega arith), drop_of_length-le cells h) (append-nil (rep r (take w cells))))
