-- The tests of a sheet in their order, and what looking through it finds. Assumes nothing.
use mathlib.Core.Path.{◌≡◌, refl, ap}
use mathlib.Core.Bool.{true}
use mathlib.Core.List.{List}
use Prim.Native.Nat.{ℕ, ◌≤◌}
use native.Mathlib.Omega.{arith}
use lib.ListN.{length}
use Rattle.refusals.specs.declared.Refusal.{Refusal}
use Rattle.std.proofs.Common.{Ok, Err}
use Rattle.refusals.specs.Results.{Checked, Passed, Refused}
use Rattle.refusals.proofs.Chains.{both_passed}
use Rattle.logic.specs.Lists.{All}
use Rattle.flows.specs.Flows.{keeps}
use Rattle.lists.specs.Tests.{test3, test4}
use Rattle.lists.proofs.Verdicts.{few_passed, kept_exactly}
use Rattle.sheets.specs.Readings.{flows_in}
use Rattle.sheets.specs.Tests.{test20, sheet_tests, counted, survey_of}
use Rattle.sheets.specs.Reader.{Recorded}

module _ (s : List ℕ) where
  -- a bad line answers first
  pub form_answers : (r : Refusal) → test20 s ≡ Refused r → sheet_tests s ≡ Refused r
  unfolding sheet_tests
  form_answers r e = rw e

  -- every line is good
  module _ (formed : test20 s ≡ Passed) where
    pub count-answers : (r : Refusal) → test3 (length (flows_in s)) ≡ Refused r → sheet_tests s ≡ Refused r
    unfolding sheet_tests
    count-answers r e = rw (formed, e)

    pub rule-answers : test3 (length (flows_in s)) ≡ Passed → sheet_tests s ≡ test4 (flows_in s)
    unfolding sheet_tests
    rule-answers e = rw (formed, e)

  -- ---- what is found, both ways

  pub found-refused : (before after : List ℕ) (r : Refusal) → sheet_tests s ≡ Refused r → (Err r ≡ survey_of s) × Recorded s before after
  unfolding survey_of
  found-refused before after r e = (rw e, λ p. let z : ◌≡◌ {A = ℕ} 0 1 = cc in absurd (omega arith))

  pub found-lines : (n : ℕ) → sheet_tests s ≡ Passed → n ≡ length (flows_in s) → Ok n ≡ survey_of s
  unfolding survey_of
  found-lines n e q = rw e (ap Ok q)

  refused_by : (c : Checked) (n : ℕ) (r : Refusal) → counted c n ≡ Err r → c ≡ Refused r
  refused_by (Err x) n r e = let q : x ≡ r = cc in ap Refused q
  refused_by (Ok tt) n r e = let z : ◌≡◌ {A = ℕ} 0 1 = cc in absurd (omega arith)

  lines_by : (c : Checked) (n k : ℕ) → counted c n ≡ Ok k → (c ≡ Passed) × (k ≡ n)
  lines_by (Ok tt) n k e = let q : k ≡ n = cc in (refl, q)
  lines_by (Err x) n k e = let z : ◌≡◌ {A = ℕ} 0 1 = cc in absurd (omega arith)

  pub refused-found : (r : Refusal) → survey_of s ≡ Err r → sheet_tests s ≡ Refused r
  unfolding survey_of
  refused-found r e = refused_by (sheet_tests s) (length (flows_in s)) r e

  pub lines-found : (n : ℕ) → survey_of s ≡ Ok n → (sheet_tests s ≡ Passed) × (n ≡ length (flows_in s))
  unfolding survey_of
  lines-found n e = lines_by (sheet_tests s) (length (flows_in s)) n e

-- ---- what is known of a sheet that passes

pub record Sound (s : List ℕ) : Type 0 where
  pub formed : test20 s ≡ Passed
  pub some : 1 ≤ length (flows_in s)
  pub few : length (flows_in s) ≤ 128
  pub kept : All (λ f. keeps f ≡ true) (flows_in s)

pub sound : (s : List ℕ) → sheet_tests s ≡ Passed → Sound s
unfolding sheet_tests
sound s e =
    let a = both_passed (test20 s) _ e in
    let b = both_passed (test3 (length (flows_in s))) _ a.1 in
    let n = few_passed (length (flows_in s)) b.0 in
    record { formed = a.0; some = n.0; few = n.1; kept = (kept_exactly (flows_in s)).0 b.1 }
