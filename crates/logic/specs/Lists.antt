-- Words for lists that the library has not. Assumes nothing.
use Rattle.std.specs.Prelude.{Bool, true, ◌&&◌, List, [], ◌∷◌, ℕ, ◌+◌}

-- every entry has P
abbrev pub All {ℓ} : {A : Type ℓ} → (A → Type 0) → List A → Type 0
All P [] = Unit
All P (x ∷ xs) = P x × All P xs

-- every entry passes the test
unfoldable pub every {ℓ} : {A : Type ℓ} → (A → Bool) → List A → Bool
every ok [] = true
every ok (x ∷ xs) = ok x && every ok xs

-- a number for each entry, summed
unfoldable pub sum {ℓ} : {A : Type ℓ} → (A → ℕ) → List A → ℕ
sum v [] = 0
sum v (x ∷ xs) = v x + sum v xs

-- each entry and the next
abbrev pub Neighbours {ℓ} : {A : Type ℓ} → (A → A → Type 0) → List A → Type 0
Neighbours R [] = Unit
Neighbours R (x ∷ []) = Unit
Neighbours R (x ∷ y ∷ xs) = R x y × Neighbours R (y ∷ xs)
