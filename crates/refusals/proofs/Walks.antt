-- One law for every loop that looks for the lowest place: at entry i it knows what the tests from i on say. Assumes nothing.
use mathlib.Core.Path.{◌≡◌, refl, sym, ap, ◌∙◌}
use mathlib.Core.Bool.{Bool, true, false}
use mathlib.Core.List.{List, [], ◌∷◌, ◌++◌, map, append-nil}
use Prim.Native.Nat.{ℕ, zero, suc, ◌+◌, ◌≤◌, ◌<◌}
use native.Mathlib.Numerals.{add-one}
use lib.ListN.{length, get_or, drop, drop_of_length-le}
use lib.Seq.{drop-cons}
use Rattle.logic.proofs.Tests.{by_test}
use Rattle.refusals.specs.declared.Refusal.{Refusal}
use Rattle.refusals.specs.Results.{Checked, Passed, Refused}
use Rattle.refusals.specs.Tests.{◌⟫◌, unless, lowest, against, after}
use Rattle.refusals.proofs.Lowest.{lowest-more, lowest-next, lowest-here}

-- the entries before entry i, the nearest first
abbrev pub before {ℓ} : {A : Type ℓ} → List A → A → ℕ → List A
before xs d zero = []
before xs d (suc i) = get_or xs i d ∷ before xs d i

-- what is said from entry i on
abbrev pub walk {ℓ} : {A : Type ℓ} → (ℕ → Refusal) → (List A → A → Bool) → List A → A → ℕ → Checked
walk refusal ok xs d i = lowest refusal (i + 1) (against ok (before xs d i) (drop i xs))

-- a test that looks at no other entry
against_alone {ℓ} : {A : Type ℓ} (ok : A → Bool) (seen xs : List A) → against (λ _ x. ok x) seen xs ≡ map ok xs
unfolding against
against_alone ok seen [] = refl
against_alone ok seen (x ∷ xs) = rw (against_alone ok (x ∷ seen) xs)

pub walk_alone {ℓ} : {A : Type ℓ} (refusal : ℕ → Refusal) (ok : A → Bool) (xs : List A) (d : A)
    → walk refusal (λ _ x. ok x) xs d 0 ≡ lowest refusal 1 (map ok xs)
walk_alone refusal ok xs d = ap (lowest refusal 1) (against_alone ok [] xs)

module _ {ℓ} {A : Type ℓ} (refusal : ℕ → Refusal) (ok : List A → A → Bool) (xs : List A) (d : A) (i : ℕ) where
  -- no entry is left
  pub walk_end : length xs ≤ i → Passed ≡ walk refusal ok xs d i
  unfolding lowest against
  walk_end h = rw (drop_of_length-le xs h)

  module _ (h : i < length xs) (b : Bool) (e : b ≡ ok (before xs d i) (get_or xs i d)) where
    opens : against ok (before xs d i) (drop i xs) ≡ b ∷ against ok (before xs d (suc i)) (drop (suc i) xs)
    unfolding against
    opens = rw (drop-cons xs i d, against, e)

    -- the entry passes
    pub walk-next : b ≡ true → walk refusal ok xs d i ≡ walk refusal ok xs d (i + 1)
    walk-next t =
        ap (lowest refusal (i + 1)) opens
        ∙ lowest-next refusal (i + 1) b (against ok (before xs d (suc i)) (drop (suc i) xs)) t
        ∙ ap (λ (j : ℕ). lowest refusal (i + 1 + 1) (against ok (before xs d j) (drop j xs))) (sym (add-one i))

    -- the entry fails
    pub walk_here : b ≡ false → Refused (refusal (i + 1)) ≡ walk refusal ok xs d i
    walk_here t =
        sym (ap (lowest refusal (i + 1)) opens ∙ lowest-here refusal (i + 1) b (against ok (before xs d (suc i)) (drop (suc i) xs)) t)

    -- what is said from it on: what its test says, and then the rest
    pub walk-turn : walk refusal ok xs d i ≡ unless b (refusal (i + 1)) ⟫ walk refusal ok xs d (i + 1)
    walk-turn = by_test b (λ t. walk-next t ∙ rw t) (λ t. sym (walk_here t) ∙ rw t)

-- a test against the entry before alone
pub against-after {ℓ} : {A : Type ℓ} (ok : A → A → Bool) (y : A) (seen : List A) (x : A) (xs : List A)
    → against (after ok) (y ∷ seen) (x ∷ xs) ≡ ok y x ∷ against (after ok) (x ∷ []) xs
unfolding against after
against-after ok y seen x [] = refl
against-after ok y seen x (z ∷ xs) = rw (against-after ok x (y ∷ seen) z xs, against-after ok x [] z xs)

-- ---- one entry more

module _ {ℓ} {A : Type ℓ} (d : A) where
  -- the first entry is the last that is seen
  before-first : (y : A) (xs seen : List A) (i : ℕ) → before (y ∷ xs) d (suc i) ++ seen ≡ before xs d i ++ (y ∷ seen)
  before-first y xs seen zero = refl
  before-first y xs seen (suc i) = ap (λ (ys : List A). get_or xs i d ∷ ys) (before-first y xs seen i)

  module _ (ok : List A → A → Bool) where
    length-against : (seen xs : List A) → length (against ok seen xs) ≡ length xs
    unfolding against
    length-against seen [] = refl
    length-against seen (x ∷ xs) = ap suc (length-against (x ∷ seen) xs)

    -- it is tested behind the others, against all of them
    against-more : (seen xs : List A) (x : A) → against ok seen (xs ++ (x ∷ [])) ≡ against ok seen xs ++ (ok (before xs d (length xs) ++ seen) x ∷ [])
    unfolding against
    against-more seen [] x = refl
    against-more seen (y ∷ xs) x =
        ap (λ (ts : List Bool). ok seen y ∷ ts)
        (against-more (y ∷ seen) xs x ∙ ap (λ (ys : List A). against ok (y ∷ seen) xs ++ (ok ys x ∷ [])) (sym (before-first y xs seen (length xs))))

    -- what is said of it, where the entries before it pass
    pub walk_more : (refusal : ℕ → Refusal) (xs : List A) (x : A) → lowest refusal 1 (against ok [] xs) ≡ Passed
        → lowest refusal 1 (against ok [] (xs ++ (x ∷ []))) ≡ unless (ok (before xs d (length xs)) x) (refusal (length xs + 1))
    walk_more refusal xs x e =
        rw (against-more [] xs x, append-nil, lowest-more refusal 1 (against ok [] xs) (ok (before xs d (length xs)) x) e, length-against [] xs)

-- and where the test looks at no other entry
pub more_alone {ℓ} : {A : Type ℓ} (refusal : ℕ → Refusal) (ok : A → Bool) (xs : List A) (x : A) → lowest refusal 1 (map ok xs) ≡ Passed
    → lowest refusal 1 (map ok (xs ++ (x ∷ []))) ≡ unless (ok x) (refusal (length xs + 1))
more_alone refusal ok xs x e =
    sym (walk_alone refusal ok (xs ++ (x ∷ [])) x) ∙ walk_more x (λ _ x. ok x) refusal xs x (walk_alone refusal ok xs x ∙ e)
