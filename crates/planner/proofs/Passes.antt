-- What planning writes passes the check, for every list and room. Assumes nothing.
use mathlib.Core.Path.{◌≡◌, refl, ap, ◌∙◌}
use mathlib.Core.List.{List, []}
use Prim.Native.Nat.{ℕ, ◌≤◌}
use lib.Dec.{leb}
use lib.ListN.{length}
use borrow.Author.Tests.{leb-true, le-ltb}
use Rattle.flows.specs.declared.flow.Flow.{Flow}
use Rattle.refusals.specs.declared.Refusal.TheVariants.{NoFrame, Room}
use Rattle.std.proofs.Common.{Ok}
use Rattle.refusals.specs.Results.{Passed, Refused}
use Rattle.refusals.specs.Answers.{answer}
use Rattle.refusals.proofs.Chains.{refused-not, both_passed, unless_passed}
use Rattle.lists.specs.Lists.{flows_of}
use Rattle.lists.specs.Facts.{cycle, frame, grants}
use Rattle.lists.specs.Tests.{tests1to7}
use Rattle.lists.proofs.Accepted.{accepted}
use Rattle.tables.specs.declared.packed.Grant.{Grant}
use Rattle.tables.specs.Tables.{place, table_of}
use Rattle.tables.proofs.Meaning.{length-table}
use Rattle.law.specs.Check.{check}
use Rattle.law.proofs.Packed.{packed-passes}
use Rattle.placing.specs.Rule.{Outcome, done, refused, planned}
use Rattle.placing.proofs.Passes.{planned-passes, planned-length}
use Rattle.planner.specs.Plan.{test8, test9, test10, plan_tests, grants_planned, plan_table, plan_answer}

-- where test 10 passes the list is planned
pub placed : (fs : List Flow) → test10 fs ≡ Passed → planned fs ≡ done (grants_planned fs)
unfolding test10 grants_planned
placed fs e = go (planned fs) e
  where
    go : (o : Outcome (List Grant)) → elim o [ done gs ↦ Passed | refused p ↦ Refused (NoFrame p) ] ≡ Passed → o ≡ done (elim o [ done gs ↦ gs | refused p ↦ [] ])
    go (done gs) q = refl
    go (refused p) q = refused-not (NoFrame p) q

-- DEMAND 2, of the planner: the table of every accepted plan passes the check
pub plan-passes : (l : List ℕ) (n : ℕ) → plan_tests l n ≡ Passed → check l (plan_table l) ≡ Passed
unfolding plan_tests plan_table
plan-passes l n e =
    let fs = flows_of l in
    let a = both_passed (tests1to7 l) _ e in
    let b = both_passed (test8 fs) _ a.1 in
    let c = both_passed (test9 fs n) _ b.1 in
    let pass = planned-passes fs (accepted l a.0) (grants_planned fs) (placed fs c.1) in
    packed-passes l (grants_planned fs) a.0 pass.0 pass.1

-- a plan's answer is the length of its table
pub plan-answers : (l : List ℕ) (n : ℕ) → plan_tests l n ≡ Passed → plan_answer l n ≡ Ok (place (grants (flows_of l)))
unfolding plan_answer answer plan_tests plan_table test9
plan-answers l n e =
    let fs = flows_of l in
    let gs = grants_planned fs in
    let a = both_passed (tests1to7 l) _ e in
    let b = both_passed (test8 fs) _ a.1 in
    let c = both_passed (test9 fs n) _ b.1 in
    let long : length (table_of (cycle fs) (frame fs) gs) ≡ place (grants fs) =
    length-table (cycle fs) (frame fs) gs ∙ ap place (planned-length fs (accepted l a.0) gs (placed fs c.1)) in
    let fits : place (grants fs) ≤ n = leb-true _ _ (unless_passed (leb (place (grants fs)) n) Room c.0) in
    rw (e, long, le-ltb n (place (grants fs)) fits)
