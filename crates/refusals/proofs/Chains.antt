-- Tests in order. Assumes nothing.
use mathlib.Core.Path.{◌≡◌, refl}
use mathlib.Core.Bool.{Bool, true, false}
use Prim.Native.Nat.{ℕ}
use native.Mathlib.Omega.{arith}
use Rattle.refusals.specs.declared.Refusal.{Refusal}
use Rattle.std.proofs.Common.{Ok, Err}
use Rattle.refusals.specs.Results.{Checked, Passed, Refused}
use Rattle.refusals.specs.Tests.{◌⟫◌, unless}

-- nothing is refused and passed
pub refused-not {ℓ} : {P : Type ℓ} (r : Refusal) → Refused r ≡ Passed → P
refused-not r e = let z : ◌≡◌ {A = ℕ} 0 1 = cc in absurd (omega arith)

-- two tests pass exactly where each does
pub both_passed : (a b : Checked) → (a ⟫ b) ≡ Passed → (a ≡ Passed) × (b ≡ Passed)
both_passed (Ok tt) b e = (refl, e)
both_passed (Err r) b e = refused-not r e

pub passed_both : (a b : Checked) → a ≡ Passed → b ≡ Passed → (a ⟫ b) ≡ Passed
passed_both a b p q = rw (p, q)

-- the first refuses, whatever follows
pub first_refuses : (a b : Checked) (r : Refusal) → a ≡ Refused r → Refused r ≡ (a ⟫ b)
first_refuses a b r e = rw e

-- the first passes, and what follows answers
pub first_passes : (a b c : Checked) → a ≡ Passed → c ≡ b → c ≡ (a ⟫ b)
first_passes a b c e q = rw e q

-- how a chain is bracketed does not matter
pub chain_assoc : (a b c : Checked) → ((a ⟫ b) ⟫ c) ≡ (a ⟫ (b ⟫ c))
chain_assoc (Ok tt) b c = refl
chain_assoc (Err r) b c = refl

-- nothing follows
pub chain_passed : (a : Checked) → (a ⟫ Passed) ≡ a
chain_passed (Ok tt) = refl
chain_passed (Err r) = refl

-- a test that names no place, both ways
module _ (t : Bool) (r : Refusal) where
  pub unless_yes : t ≡ true → unless t r ≡ Passed
  unless_yes e = rw e

  pub unless_no : t ≡ false → unless t r ≡ Refused r
  unless_no e = rw e

pub unless_passed : (t : Bool) (r : Refusal) → unless t r ≡ Passed → t ≡ true
unless_passed true r e = refl
unless_passed false r e = refused-not r e
