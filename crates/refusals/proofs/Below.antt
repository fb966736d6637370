-- Tests that refuse by low numbers alone. Assumes nothing.
use mathlib.Core.Path.{◌≡◌, refl, sym}
use mathlib.Core.Bool.{Bool, true, false}
use mathlib.Core.List.{List, [], ◌∷◌}
use Prim.Native.Nat.{ℕ, suc, ◌<◌}
use native.Mathlib.Omega.{arith}
use Rattle.refusals.specs.declared.Refusal.{Refusal}
use Rattle.std.proofs.Common.{Ok, Err}
use Rattle.refusals.specs.Results.{Checked, Passed, Refused}
use Rattle.refusals.specs.Refusals.{number}
use Rattle.refusals.specs.Tests.{◌⟫◌, unless, lowest}
use Rattle.refusals.proofs.Chains.{refused-not}

-- every refusal has a number below k
abbrev pub Below : ℕ → Checked → Type 0
Below k c = (r : Refusal) → c ≡ Refused r → number r < k

module _ (k : ℕ) where
  pub below_both : (a b : Checked) → Below k a → Below k b → Below k (a ⟫ b)
  below_both (Ok tt) b p q = q
  below_both (Err s) b p q = p

  pub below-unless : (t : Bool) (s : Refusal) → number s < k → Below k (unless t s)
  below-unless true s h r e = refused-not r (sym e)
  below-unless false s h r e = let q : s ≡ r = cc in rw (← q) h

  pub below-lowest : (refusal : ℕ → Refusal) (n : ℕ) (ts : List Bool) → ((p : ℕ) → number (refusal p) < k) → Below k (lowest refusal n ts)
  unfolding lowest
  below-lowest refusal n [] h r e = refused-not r (sym e)
  below-lowest refusal n (true ∷ ts) h r e = below-lowest refusal (suc n) ts h r e
  below-lowest refusal n (false ∷ ts) h r e = let q : refusal n ≡ r = cc in rw (← q) (h n)

-- a refusal whose number the first test has not is the second's
pub second_refuses : (a b : Checked) (r : Refusal) → Below (number r) a → (a ⟫ b) ≡ Refused r → (a ≡ Passed) × (b ≡ Refused r)
second_refuses (Ok tt) b r h e = (refl, e)
second_refuses (Err s) b r h e = absurd (omega (arith, h r e))
