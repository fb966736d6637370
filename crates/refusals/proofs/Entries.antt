-- A test of each entry passes exactly where every entry does. Assumes nothing.
use mathlib.Core.Path.{◌≡◌, refl}
use mathlib.Core.Bool.{Bool, true}
use mathlib.Core.Logic.{◌↔◌}
use mathlib.Core.List.{List, [], ◌∷◌, map}
use Prim.Native.Nat.{ℕ}
use Rattle.logic.specs.Lists.{All, every, Neighbours}
use Rattle.logic.proofs.Members.{all_each, all_imp, all_both, every-all, all-every}
use Rattle.refusals.specs.declared.Refusal.{Refusal}
use Rattle.refusals.specs.Results.{Passed}
use Rattle.refusals.specs.Tests.{lowest, against, after}
use Rattle.refusals.proofs.Lowest.{Pass, lowest_pass, pass_lowest}

-- a test of the entry alone
module _ {ℓ} {A : Type ℓ} (ok : A → Bool) (P : A → Type 0) (h : (x : A) → (ok x ≡ true) ↔ P x) where
  pass_each : (xs : List A) → Pass (map ok xs) ↔ All P xs
  pass_each [] = (λ p. tt, λ a. tt)
  pass_each (x ∷ xs) = let ih = pass_each xs in (λ p. ((h x).0 p.0, ih.0 p.1), λ a. ((h x).1 a.0, ih.1 a.1))

  pub each_passed : (refusal : ℕ → Refusal) (n : ℕ) (xs : List A) → (lowest refusal n (map ok xs) ≡ Passed) ↔ All P xs
  each_passed refusal n xs = (
    λ e. (pass_each xs).0 (lowest_pass refusal n (map ok xs) e),
    λ a. pass_lowest refusal n (map ok xs) ((pass_each xs).1 a),
  )

-- a test of an entry and the one before it
module _ {ℓ} {A : Type ℓ} (ok : A → A → Bool) (R : A → A → Type 0) (h : (y x : A) → (ok y x ≡ true) ↔ R y x) where
  pass_next : (seen : List A) (y : A) (xs : List A) → Pass (against (after ok) (y ∷ seen) xs) ↔ Neighbours R (y ∷ xs)
  unfolding against after
  pass_next seen y [] = (λ p. tt, λ a. tt)
  pass_next seen y (x ∷ xs) =
      let ih = pass_next (y ∷ seen) x xs in
      (λ p. ((h y x).0 p.0, ih.0 p.1), λ a. ((h y x).1 a.0, ih.1 a.1))

  pass_neighbours : (xs : List A) → Pass (against (after ok) [] xs) ↔ Neighbours R xs
  unfolding against after
  pass_neighbours [] = (λ p. tt, λ a. tt)
  pass_neighbours (x ∷ xs) = let ih = pass_next [] x xs in (λ p. ih.0 p.1, λ a. (refl, ih.1 a))

  pub neighbours_passed : (refusal : ℕ → Refusal) (n : ℕ) (xs : List A) → (lowest refusal n (against (after ok) [] xs) ≡ Passed) ↔ Neighbours R xs
  neighbours_passed refusal n xs = (
    λ e. (pass_neighbours xs).0 (lowest_pass refusal n (against (after ok) [] xs) e),
    λ a. pass_lowest refusal n (against (after ok) [] xs) ((pass_neighbours xs).1 a),
  )

-- each entry and every later one
abbrev pub Pairs {ℓ} : {A : Type ℓ} → (A → A → Type 0) → List A → Type 0
Pairs R [] = Unit
Pairs R (x ∷ xs) = All (R x) xs × Pairs R xs

-- a test of an entry and every one before it
module _ {ℓ} {A : Type ℓ} (ok : A → A → Bool) where
  pass_pairs : (seen xs : List A) → Pass (against (λ seen x. every (λ y. ok y x) seen) seen xs)
      → All (λ y. All (λ x. ok y x ≡ true) xs) seen × Pairs (λ y x. ok y x ≡ true) xs
  unfolding against
  pass_pairs seen [] p = (all_each (λ y. Unit) seen (λ y. tt), tt)
  pass_pairs seen (x ∷ xs) p =
      let ih = pass_pairs (x ∷ seen) xs p.1 in (
        all_both (λ y. ok y x ≡ true) (λ y. All (λ z. ok y z ≡ true) xs) (λ y. All (λ z. ok y z ≡ true) (x ∷ xs)) seen (λ y a b. (a, b))
            (every-all (λ y. ok y x) seen p.0) ih.0.1,
        (ih.0.0, ih.1),
      )

  pub pairs_passed : (refusal : ℕ → Refusal) (n : ℕ) (xs : List A) → lowest refusal n (against (λ seen x. every (λ y. ok y x) seen) [] xs) ≡ Passed
      → Pairs (λ y x. ok y x ≡ true) xs
  pairs_passed refusal n xs e = (pass_pairs [] xs (lowest_pass refusal n (against (λ seen x. every (λ y. ok y x) seen) [] xs) e)).1

  -- it passes where any two entries of one sort pass and all are of that sort
  module _ (P : A → Type 0) (h : (y x : A) → P y → P x → ok y x ≡ true) where
    pass_alike : (seen xs : List A) → All P seen → All P xs → Pass (against (λ seen x. every (λ y. ok y x) seen) seen xs)
    unfolding against
    pass_alike seen [] s a = tt
    pass_alike seen (x ∷ xs) s a = (
      all-every (λ y. ok y x) seen (all_imp P (λ y. ok y x ≡ true) seen (λ y p. h y x p a.0) s),
      pass_alike (x ∷ seen) xs (a.0, s) a.1,
    )

    pub alike_passed : (refusal : ℕ → Refusal) (n : ℕ) (xs : List A) → All P xs → lowest refusal n (against (λ seen x. every (λ y. ok y x) seen) [] xs) ≡ Passed
    alike_passed refusal n xs a = pass_lowest refusal n (against (λ seen x. every (λ y. ok y x) seen) [] xs) (pass_alike [] xs tt a)
