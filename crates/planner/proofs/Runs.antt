-- A turn of each walk along the frames. Assumes nothing.
use Rattle.std.proofs.Common.{Some, None, ◌≡◌, refl, true, false, ◌⊎◌, List, [], ◌∷◌, ◌++◌, ℕ, ◌+◌, ◌*◌, ◌≤◌, ◌<◌, add-one, arith, eqb, length, get_or, take, drop, drop_of_length-le, drop-cons, take-suc}
use borrow.Author.Tests.{lt-ltb, le-ltb, eq-eqb}
use Rattle.placing.specs.Rule.{past}
use Rattle.planner.specs.Cells.{over}
use Rattle.planner.specs.Cells.{runs, opens, first}

over-append : (φ o : ℕ) (xs ys : List ℕ) → over φ o (xs ++ ys) ≡ over φ (over φ o xs) ys
unfolding over
over-append φ o [] ys = refl
over-append φ o (x ∷ xs) ys = over-append φ (past φ o x) xs ys

-- what is carried on grows by no more than a frame's content
pub carried : (φ o k c : ℕ) → o ≤ 65535 * k → c < 65536 → past φ o c ≤ 65535 * (k + 1)
carried φ o k c h l = omega arith

-- one frame more
pub over-next : (φ : ℕ) (cs : List ℕ) (k : ℕ) → k < length cs → over φ 0 (take (k + 1) cs) ≡ past φ (over φ 0 (take k cs)) (get_or cs k 0)
unfolding over
over-next φ cs k h = rw (add-one, take-suc cs k 0) (over-append φ 0 (take k cs) (get_or cs k 0 ∷ []))

-- behind the last frame a push has run out if nothing is left of it
pub runs_end : (φ p : ℕ) (cs ls : List ℕ) → (length cs ≡ 0) ⊎ (length ls ≡ 0) → runs φ p cs ls ≡ eqb p 0
unfolding runs
runs_end φ p [] ls h = refl
runs_end φ p (c ∷ cs) [] h = refl
runs_end φ p (c ∷ cs) (l ∷ ls) h = absurd (omega arith)

-- a push of which nothing is left has run out
pub runs_out : (φ p : ℕ) (cs ls : List ℕ) → p ≡ 0 → runs φ p cs ls ≡ true
unfolding runs
runs_out φ p [] ls h = eq-eqb p 0 h
runs_out φ p (c ∷ cs) [] h = eq-eqb p 0 h
runs_out φ p (c ∷ cs) (l ∷ ls) h = rw (eq-eqb p 0 h, runs)

module _ (cs ls : List ℕ) (same : length ls ≡ length cs) (φ : ℕ) where
  module _ (k : ℕ) (h : k < length cs) (s o : ℕ) where
    pub opens_full : φ ≤ o + get_or cs k 0 → opens φ s o (drop k cs) (drop k ls) ≡ false
    unfolding opens
    opens_full a =
        let hl : k < length ls = omega arith in
        rw (drop-cons cs k 0 h, drop-cons ls k 0 hl) (rw (le-ltb _ _ a, opens))

    pub opens-room : o + get_or cs k 0 < φ → opens φ s o (drop k cs) (drop k ls) ≡ runs φ (past φ (o + get_or cs k 0) s) (drop (k + 1) cs) (drop (k + 1) ls)
    unfolding opens
    opens-room a =
        let hl : k < length ls = omega arith in
        rw (add-one, drop-cons cs k 0 h, drop-cons ls k 0 hl) (rw (lt-ltb _ _ a, opens))

    pub first-here : (j : ℕ) → opens φ s o (drop k cs) (drop k ls) ≡ true → first φ s j o (drop k cs) (drop k ls) ≡ Some j
    unfolding first
    first-here j e =
        let hl : k < length ls = omega arith in
        let u = rw (drop-cons cs k 0 h, drop-cons ls k 0 hl) at e in
        rw (drop-cons cs k 0 h, drop-cons ls k 0 hl) (rw (u, first))

    pub first-later : (j : ℕ) → opens φ s o (drop k cs) (drop k ls) ≡ false
        → first φ s j o (drop k cs) (drop k ls) ≡ first φ s (j + 1) (past φ o (get_or cs k 0)) (drop (k + 1) cs) (drop (k + 1) ls)
    unfolding first
    first-later j e =
        let hl : k < length ls = omega arith in
        let u = rw (drop-cons cs k 0 h, drop-cons ls k 0 hl) at e in
        rw (add-one j, add-one k, drop-cons cs k 0 h, drop-cons ls k 0 hl) (rw (u, first))

  pub first-none : (k s o j : ℕ) → length cs ≤ k → first φ s j o (drop k cs) (drop k ls) ≡ None
  unfolding first
  first-none k s o j h = rw (drop_of_length-le cs h)
