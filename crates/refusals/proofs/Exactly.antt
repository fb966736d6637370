-- A refusal is given exactly when its test is the first to find fault, and names exactly the lowest place. Assumes nothing.
use mathlib.Core.Path.{◌≡◌, refl, sym, ap, ◌∙◌}
use mathlib.Core.Bool.{Bool, true, false}
use mathlib.Core.Logic.{◌↔◌}
use mathlib.Core.List.{List, [], ◌∷◌}
use Prim.Native.Nat.{ℕ, zero, suc, ◌+◌, ◌<◌}
use native.Mathlib.Omega.{arith}
use lib.ListN.{get_or}
use Rattle.logic.proofs.Tests.{true-not-false}
use Rattle.refusals.specs.declared.Refusal.{Refusal}
use Rattle.std.proofs.Common.{Ok, Err}
use Rattle.refusals.specs.Results.{Checked, Passed, Refused}
use Rattle.refusals.specs.Tests.{lowest}
use Rattle.refusals.specs.First.{in_order, FirstFault, LowestPlace}
use Rattle.refusals.proofs.Chains.{refused-not}

-- ---- tests in order

first_found : (ts : List Checked) (r : Refusal) → in_order ts ≡ Refused r → FirstFault ts r
unfolding in_order
first_found [] r e = refused-not r (sym e)
first_found ((Ok tt) ∷ ts) r e =
    let ih = first_found ts r e in
    record { test = suc ih.test; found = ih.found; passed_before = before ih.passed_before }
  where
    before : {k : ℕ} → ((j : ℕ) → j < k → get_or ts j Passed ≡ Passed) → (j : ℕ) → j < suc k → get_or (Passed ∷ ts) j Passed ≡ Passed
    before h zero l = refl
    before h (suc j) l = h j (omega arith)
first_found (Err q ∷ ts) r e = record { test = 0; found = e; passed_before = λ j l. absurd (omega arith) }

found_first : (ts : List Checked) (r : Refusal) (k : ℕ) → get_or ts k Passed ≡ Refused r → ((j : ℕ) → j < k → get_or ts j Passed ≡ Passed) → in_order ts ≡ Refused r
unfolding in_order
found_first [] r k f p = refused-not r (sym f)
found_first (t ∷ ts) r zero f p = rw f
found_first (t ∷ ts) r (suc k) f p = let h : t ≡ Passed = p 0 (omega arith) in rw h (found_first ts r k f (λ j l. p (suc j) (omega arith)))

-- "A refusal is given exactly when its test is the first to find fault"
pub first_fault : (ts : List Checked) (r : Refusal) → (in_order ts ≡ Refused r) ↔ FirstFault ts r
first_fault ts r = (first_found ts r, λ f. found_first ts r f.test f.found f.passed_before)

-- ---- the lowest place

module _ (refusal : ℕ → Refusal) where
  place_found : (n : ℕ) (ts : List Bool) (r : Refusal) → lowest refusal n ts ≡ Refused r → LowestPlace refusal n ts r
  unfolding lowest
  place_found n [] r e = refused-not r (sym e)
  place_found n (true ∷ ts) r e =
      let ih = place_found (suc n) ts r e in
      let q : suc n + ih.entry ≡ n + suc ih.entry = omega arith in
      record {
        entry = suc ih.entry;
        inside = omega (arith, ih.inside);
        fails = ih.fails;
        passed_before = before ih.passed_before;
        named = ih.named ∙ ap refusal q;
      }
    where
      before : {k : ℕ} → ((j : ℕ) → j < k → get_or ts j true ≡ true) → (j : ℕ) → j < suc k → get_or (true ∷ ts) j true ≡ true
      before h zero l = refl
      before h (suc j) l = h j (omega arith)
  place_found n (false ∷ ts) r e =
      let q : n ≡ n + 0 = omega arith in
      let s : refusal n ≡ r = cc in
      record { entry = 0; inside = omega arith; fails = refl; passed_before = λ j l. absurd (omega arith); named = sym s ∙ ap refusal q }

  found-place : (n : ℕ) (ts : List Bool) (k : ℕ) → get_or ts k true ≡ false → ((j : ℕ) → j < k → get_or ts j true ≡ true) → lowest refusal n ts ≡ Refused (refusal (n + k))
  unfolding lowest
  found-place n [] k f p = true-not-false f
  found-place n (t ∷ ts) zero f p = let q : n ≡ n + 0 = omega arith in rw (f, lowest) (ap (λ (x : ℕ). Refused (refusal x)) q)
  found-place n (t ∷ ts) (suc k) f p =
      let h : t ≡ true = p 0 (omega arith) in
      let q : suc n + k ≡ n + suc k = omega arith in
      rw (h, lowest) (found-place (suc n) ts k f (λ j l. p (suc j) (omega arith)) ∙ ap (λ (x : ℕ). Refused (refusal x)) q)

  -- "and the lowest place is named"
  pub lowest-place : (n : ℕ) (ts : List Bool) (r : Refusal) → (lowest refusal n ts ≡ Refused r) ↔ LowestPlace refusal n ts r
  lowest-place n ts r = (
    place_found n ts r,
    λ f. found-place n ts f.entry f.fails f.passed_before ∙ ap (λ (x : Refusal). Refused x) (sym f.named),
  )
