-- Sums over a list. Assumes nothing.
use mathlib.Core.Path.{◌≡◌, refl}
use mathlib.Core.List.{List, [], ◌∷◌}
use Prim.Native.Nat.{ℕ, ◌+◌, ◌*◌}
use native.Mathlib.Omega.{arith}
use Rattle.logic.specs.Lists.{All, sum}

module _ {ℓ} {A : Type ℓ} (u v : A → ℕ) where
  pub sum_same : (xs : List A) → All (λ x. u x ≡ v x) xs → sum u xs ≡ sum v xs
  unfolding sum
  sum_same [] a = refl
  sum_same (x ∷ xs) a = omega (arith, sum_same xs a.1)

  pub sum-add : (xs : List A) → sum (λ x. u x + v x) xs ≡ sum u xs + sum v xs
  unfolding sum
  sum-add [] = refl
  sum-add (x ∷ xs) = omega (arith, sum-add xs)

pub sum-zero {ℓ} : {A : Type ℓ} (v : A → ℕ) (xs : List A) → All (λ x. v x ≡ 0) xs → sum v xs ≡ 0
unfolding sum
sum-zero v [] a = refl
sum-zero v (x ∷ xs) a = omega (arith, sum-zero v xs a.1)

pub sum-times {ℓ} : {A : Type ℓ} (v : A → ℕ) (k : ℕ) (xs : List A) → sum (λ x. v x * k) xs ≡ sum v xs * k
unfolding sum
sum-times v k [] = omega arith
sum-times v k (x ∷ xs) = omega (arith, sum-times v k xs)
