-- Two lists, one behind the other. Assumes nothing.
use mathlib.Core.Path.{◌≡◌, refl}
use mathlib.Core.List.Memᴰ
use mathlib.Core.List.{List, [], ◌∷◌, ◌++◌}
use Prim.Native.Nat.{ℕ, ◌+◌}
use native.Mathlib.Omega.{arith}
use Rattle.logic.specs.Lists.{All, sum}
use Rattle.logic.proofs.Members.{Mem}

pub all_append {ℓ} : {A : Type ℓ} (P : A → Type 0) (xs ys : List A) → All P xs → All P ys → All P (xs ++ ys)
all_append P [] ys a b = b
all_append P (x ∷ xs) ys a b = (a.0, all_append P xs ys a.1 b)

-- the entry behind the first list
pub all-behind {ℓ} : {A : Type ℓ} (P : A → Type 0) (xs : List A) (y : A) (ys : List A) → All P (xs ++ (y ∷ ys)) → P y
all-behind P [] y ys a = a.0
all-behind P (x ∷ xs) y ys a = all-behind P xs y ys a.1

pub mem_behind {ℓ} : {A : Type ℓ} (xs : List A) (y : A) (ys : List A) → Mem y (xs ++ (y ∷ ys))
mem_behind [] y ys = Memᴰ.head refl
mem_behind (x ∷ xs) y ys = Memᴰ.tail (mem_behind xs y ys)

pub sum-append {ℓ} : {A : Type ℓ} (v : A → ℕ) (xs ys : List A) → sum v (xs ++ ys) ≡ sum v xs + sum v ys
unfolding sum
sum-append v [] ys = omega arith
sum-append v (x ∷ xs) ys = omega (arith, sum-append v xs ys)
