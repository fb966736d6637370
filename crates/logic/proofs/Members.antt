-- Entries of a list, and what holds of each. Assumes nothing.
use mathlib.Core.Path.{◌≡◌, refl, sym, subst}
use mathlib.Core.Bool.{Bool, true}
use mathlib.Core.Logic.{⊎_elim}
use mathlib.Core.List.Memᴰ
use mathlib.Core.List.{List, [], ◌∷◌, Memᴰ}
use Prim.Native.Nat.{ℕ, zero, suc, ◌<◌}
use native.Mathlib.Omega.{arith}
use lib.ListN.{length, get_or}
use Rattle.logic.specs.Lists.{All, every}
use Rattle.logic.proofs.Tests.{and_both, both_and}

-- x stands in the list
abbrev pub Mem {ℓ} : {A : Type ℓ} → A → List A → Type ℓ
Mem x xs = Memᴰ x xs

pub by_mem {ℓ κ} : {A : Type ℓ} {P : Type κ} {x y : A} {ys : List A} → Mem x (y ∷ ys) → (x ≡ y → P) → (Mem x ys → P) → P
by_mem m f g = ⊎_elim f g (Memᴰ.cases_cons m)

-- what holds of every entry, by membership
pub all_mem {ℓ} : {A : Type ℓ} (P : A → Type 0) (xs : List A) → All P xs → (x : A) → Mem x xs → P x
all_mem P [] a x m = absurd (Memᴰ.not-nil m)
all_mem P (y ∷ ys) a x m = by_mem m (λ e. subst P (sym e) a.0) (λ k. all_mem P ys a.1 x k)

pub mem_all {ℓ} : {A : Type ℓ} (P : A → Type 0) (xs : List A) → ((x : A) → Mem x xs → P x) → All P xs
mem_all P [] h = tt
mem_all P (x ∷ xs) h = (h x (Memᴰ.head refl), mem_all P xs (λ y m. h y (Memᴰ.tail m)))

-- the same by index
pub all_get_d {ℓ} : {A : Type ℓ} (P : A → Type 0) (d : A) (xs : List A) → All P xs → (k : ℕ) → k < length xs → P (get_or xs k d)
all_get_d P d [] a k h = absurd (omega arith)
all_get_d P d (x ∷ xs) a zero h = a.0
all_get_d P d (x ∷ xs) a (suc k) h = all_get_d P d xs a.1 k (omega arith)

pub get_d_all {ℓ} : {A : Type ℓ} (P : A → Type 0) (d : A) (xs : List A) → ((k : ℕ) → k < length xs → P (get_or xs k d)) → All P xs
get_d_all P d [] h = tt
get_d_all P d (x ∷ xs) h = (h 0 (omega arith), get_d_all P d xs (λ k i. h (suc k) (omega arith)))

-- what follows from it, and from two of it
pub all_imp {ℓ} : {A : Type ℓ} (P Q : A → Type 0) (xs : List A) → ((x : A) → P x → Q x) → All P xs → All Q xs
all_imp P Q [] h a = tt
all_imp P Q (x ∷ xs) h a = (h x a.0, all_imp P Q xs h a.1)

pub all_both {ℓ} : {A : Type ℓ} (P Q R : A → Type 0) (xs : List A) → ((x : A) → P x → Q x → R x) → All P xs → All Q xs → All R xs
all_both P Q R [] h a b = tt
all_both P Q R (x ∷ xs) h a b = (h x a.0 b.0, all_both P Q R xs h a.1 b.1)

-- what holds of anything
pub all_each {ℓ} : {A : Type ℓ} (P : A → Type 0) (xs : List A) → ((x : A) → P x) → All P xs
all_each P [] h = tt
all_each P (x ∷ xs) h = (h x, all_each P xs h)

-- a test that every entry passes, both ways
pub every-all {ℓ} : {A : Type ℓ} (ok : A → Bool) (xs : List A) → every ok xs ≡ true → All (λ x. ok x ≡ true) xs
unfolding every
every-all ok [] e = tt
every-all ok (x ∷ xs) e = let both = and_both (ok x) (every ok xs) e in (both.0, every-all ok xs both.1)

pub all-every {ℓ} : {A : Type ℓ} (ok : A → Bool) (xs : List A) → All (λ x. ok x ≡ true) xs → every ok xs ≡ true
unfolding every
all-every ok [] a = refl
all-every ok (x ∷ xs) a = both_and (ok x) (every ok xs) a.0 (all-every ok xs a.1)
