-- Document 01: "Tests run in the order shown, each over the whole input before the next, and the lowest place is named. A
-- refusal is given exactly when its test is the first to find fault." Assumes nothing.
use Rattle.std.specs.Prelude.{ℕ, suc, Bool, true, false, cond, List, [], ◌∷◌, Ok, Err}
use Rattle.refusals.specs.declared.Refusal.{Refusal}
use Rattle.refusals.specs.Results.{Checked, Passed, Refused}

infixr 20 ◌⟫◌
-- tests in order: the first that finds fault is the one that answers
abbrev pub ◌⟫◌ : Checked → Checked → Checked
(Ok tt) ⟫ b = b
Err r ⟫ b = Refused r

-- a test that names no place
abbrev pub unless : Bool → Refusal → Checked
unless ok r = cond ok Passed (Refused r)

-- a test of each entry: the lowest place at which it fails, counted from n
unfoldable pub lowest : (ℕ → Refusal) → ℕ → List Bool → Checked
lowest refusal n [] = Passed
lowest refusal n (true ∷ ts) = lowest refusal (suc n) ts
lowest refusal n (false ∷ ts) = Refused (refusal n)

-- a test of each entry against those before it, which it sees with the nearest first
unfoldable pub against {ℓ} : {A : Type ℓ} → (List A → A → Bool) → List A → List A → List Bool
against ok seen [] = []
against ok seen (x ∷ xs) = ok seen x ∷ against ok (x ∷ seen) xs

-- a test of an entry against the one before it; the first passes
unfoldable pub after {ℓ} : {A : Type ℓ} → (A → A → Bool) → List A → A → Bool
after ok [] x = true
after ok (y ∷ seen) x = ok y x
