-- The lowest place at which a test fails. Assumes nothing.
use mathlib.Core.Path.{◌≡◌, refl, sym, ap, ◌∙◌}
use mathlib.Core.Bool.{Bool, true, false}
use mathlib.Core.List.{List, [], ◌∷◌, ◌++◌}
use Prim.Native.Nat.{ℕ, suc, ◌+◌}
use native.Mathlib.Nat.{zero-add, suc-add, add-suc, add-zero}
use native.Mathlib.Numerals.{add-one}
use lib.ListN.{length}
use Rattle.logic.specs.Lists.{All}
use Rattle.logic.proofs.Tests.{by_test}
use Rattle.refusals.specs.declared.Refusal.{Refusal}
use Rattle.refusals.specs.Results.{Checked, Passed, Refused}
use Rattle.refusals.specs.Tests.{◌⟫◌, unless, lowest}
use Rattle.refusals.proofs.Chains.{refused-not, chain_assoc}

-- every test passes
abbrev pub Pass : List Bool → Type 0
Pass ts = All (λ t. t ≡ true) ts

module _ (refusal : ℕ → Refusal) where
  -- nothing is refused exactly where every test passes
  pub pass_lowest : (n : ℕ) (ts : List Bool) → Pass ts → lowest refusal n ts ≡ Passed
  unfolding lowest
  pass_lowest n [] p = refl
  pass_lowest n (t ∷ ts) p = rw (p.0, lowest) (pass_lowest (suc n) ts p.1)

  pub lowest_pass : (n : ℕ) (ts : List Bool) → lowest refusal n ts ≡ Passed → Pass ts
  unfolding lowest
  lowest_pass n [] e = tt
  lowest_pass n (true ∷ ts) e = (refl, lowest_pass (suc n) ts e)
  lowest_pass n (false ∷ ts) e = refused-not (refusal n) e

  -- one test more, behind tests that pass
  pub lowest-more : (n : ℕ) (ts : List Bool) (t : Bool) → lowest refusal n ts ≡ Passed → lowest refusal n (ts ++ (t ∷ [])) ≡ unless t (refusal (length ts + n))
  unfolding lowest
  lowest-more n [] t e = by_test t (λ q. rw (q, lowest)) (λ q. rw (q, lowest, zero-add))
  lowest-more n (true ∷ ts) t e = rw (suc-add, ← add-suc) (lowest-more (suc n) ts t e)
  lowest-more n (false ∷ ts) t e = refused-not (refusal n) e

  -- the tests of two parts, one behind the other
  pub lowest_both : (n : ℕ) (ts us : List Bool) → lowest refusal n (ts ++ us) ≡ (lowest refusal n ts ⟫ lowest refusal (n + length ts) us)
  unfolding lowest
  lowest_both n [] us = rw add-zero
  lowest_both n (true ∷ ts) us = rw (add-suc, ← suc-add) (lowest_both (suc n) ts us)
  lowest_both n (false ∷ ts) us = refl

  -- a turn of a loop that looks for it, at place n
  module _ (n : ℕ) (t : Bool) (ts : List Bool) where
    lowest-first : lowest refusal n (t ∷ ts) ≡ (unless t (refusal n) ⟫ lowest refusal (n + 1) ts)
    unfolding lowest
    lowest-first = by_test t (λ e. rw (add-one, e, lowest)) (λ e. rw (e, lowest))

    pub lowest-next : t ≡ true → lowest refusal n (t ∷ ts) ≡ lowest refusal (n + 1) ts
    unfolding lowest
    lowest-next e = rw (add-one, e, lowest)

    pub lowest-here : t ≡ false → lowest refusal n (t ∷ ts) ≡ Refused (refusal n)
    unfolding lowest
    lowest-here e = rw (e, lowest)

    -- or notes it behind the tests before
    pub lowest-noted : (before : Checked) → (before ⟫ lowest refusal n (t ∷ ts)) ≡ ((before ⟫ unless t (refusal n)) ⟫ lowest refusal (n + 1) ts)
    lowest-noted before = ap (λ (c : Checked). before ⟫ c) lowest-first ∙ sym (chain_assoc before (unless t (refusal n)) (lowest refusal (n + 1) ts))
