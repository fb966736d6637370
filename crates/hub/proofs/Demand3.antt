-- DEMAND 3. "Where tests 1 to 7 pass and there is room, and each flow tolerates at least the sum, over every longer interval, of that
-- interval's largest size less one: planned exactly when the load is at most the cycle, and if refused no table of that cycle
-- passes." Assumes nothing.
use mathlib.Core.Path.{◌≡◌, sym, ◌∙◌}
use mathlib.Core.Logic.{◌↔◌}
use mathlib.Core.List.{List}
use Prim.Native.Nat.{ℕ, ◌≤◌}
use lib.Dec.{leb}
use borrow.Author.Tests.{le-leb, leb-true}
use Rattle.logic.proofs.Tests.{by_lt}
use Rattle.refusals.specs.declared.Refusal.{Refusal}
use Rattle.refusals.specs.declared.Refusal.TheVariants.{Overload, Room}
use Rattle.refusals.specs.Results.{Passed, Refused}
use Rattle.refusals.proofs.Chains.{refused-not, both_passed, passed_both, unless_yes, unless_passed}
use Rattle.lists.specs.Lists.{flows_of}
use Rattle.lists.specs.Facts.{cycle, grants, load}
use Rattle.lists.specs.Tests.{tests1to7}
use Rattle.lists.proofs.Accepted.{accepted}
use Rattle.tables.specs.Tables.{place}
use Rattle.law.specs.Check.{check}
use Rattle.law.proofs.Oversold.{oversold}
use Rattle.placing.specs.Tolerance.{Tolerant}
use Rattle.placing.proofs.Always.{always_planned}
use Rattle.planner.specs.Plan.{test8, test9, test10, plan_tests}

module _ (l : List ℕ) (n : ℕ) (pass : tests1to7 l ≡ Passed) (room : place (grants (flows_of l)) ≤ n) (tolerant : Tolerant (flows_of l)) where
  small_planned : load (flows_of l) ≤ cycle (flows_of l) → plan_tests l n ≡ Passed
  unfolding plan_tests test8 test9 test10
  small_planned h =
      let fs = flows_of l in
      let is = always_planned fs (accepted l pass) tolerant h in
      passed_both (tests1to7 l) _ pass
      (passed_both (test8 fs) _ (unless_yes _ Overload (le-leb (load fs) (cycle fs) h))
      (passed_both (test9 fs n) _ (unless_yes _ Room (le-leb (place (grants fs)) n room)) (rw (is.1, test10))))

  -- planned exactly when the load is at most the cycle
  pub planned_exactly : (plan_tests l n ≡ Passed) ↔ (load (flows_of l) ≤ cycle (flows_of l))
  unfolding plan_tests test8
  planned_exactly = (
    λ e.
        let a = both_passed (tests1to7 l) _ e in
        leb-true _ _ (unless_passed (leb (load (flows_of l)) (cycle (flows_of l))) Overload (both_passed (test8 (flows_of l)) _ a.1).0),
    small_planned,
  )

  -- and if refused no table of that cycle passes
  pub refused_none : (r : Refusal) → plan_tests l n ≡ Refused r → (t : List ℕ) → check l t ≡ Passed → ⊥
  refused_none r e t =
      by_lt (cycle (flows_of l)) (load (flows_of l)) (λ h. oversold l t h) (λ h c. refused-not r (sym e ∙ small_planned h))
