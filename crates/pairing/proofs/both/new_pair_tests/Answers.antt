-- `pairing::both::new_pair_tests` meets its contract.
-- Assumes nothing.
use Rattle.std.proofs.Common.{rules, tests, ◌≡◌, ◌∙◌, sym, not, length, ◌+◌, Err}
use native.Mathlib.Omega.{arith}
use lib.Dec.{eqb}
use Rattle.std.proofs.lemmas.Iterator.{YieldsList-from_range}
use Rattle.std.proofs.lemmas.Iterator.Search.{all_from_yields_List}
use Rattle.flows.specs.Flows.{no_flow}
use Rattle.refusals.specs.declared.Refusal.TheVariants.{UsedNumber, Unrelated}
use Rattle.refusals.specs.Tests.{unless}
use Rattle.refusals.proofs.Walks.{before}
use Rattle.refusals.proofs.Chains.{first_refuses, first_passes}
use Rattle.lists.specs.Lists.{flow_at, flows_of}
use Rattle.lists.specs.Facts.{related}
use Rattle.lists.specs.Tests.{new_number, related_interval}
use Rattle.pairing.specs.Parts.{new_pair_tests}
use Rattle.pairing.proofs.Verdicts.{refused_by}
use Rattle.pairing.proofs.both.new_pair_tests.Goals as goal
use Rattle.pairing.proofs.both.new_pair_tests.Goals.{After-unless}

-- test 5 of the flow
number_said : (c : After-unless) → let fs = flows_of c.args.list.now in
    c.unless.result ≡ unless (new_number (before fs no_flow (length fs)) c.args.f) (UsedNumber (length fs + 1))
unfolding new_number
number_said c =
    let a = c.args in
    let n = c.count-n.result in
    let is_new = all_from_yields_List (λ i. not (eqb (flow_at a.list.now i).number a.f.number)) _ _ _ c.all-is_new.ensures.ran (YieldsList-from_range 0 n n (cc) (omega arith)) (λ x b q k. search (rules, tests)) in
    c.unless.ensures ∙ refused_by (λ g. not (eqb g.number a.f.number)) UsedNumber a.list.now n c.all-is_new.result c.count-n.ensures.0 is_new

pub returns-in_err-unless : goal.returns-in_err-unless
returns-in_err-unless c =
    let refused : Err c.in_err-unless.field-0.0 ≡ new_pair_tests (flows_of c.args.list.now) c.args.f =
    first_refuses _ _ _ (sym (number_said (goal.at.returns-in_err-unless c).After-unless) ∙ c.in_err-unless.was) in
    rw (← refused) (search rules)

pub returns : goal.returns
unfolding related_interval
returns c =
    let a = c.args in
    let n = c.count-n.result in
    let is_related = all_from_yields_List (λ i. related (flow_at a.list.now i).interval a.f.interval) _ _ _ c.all-is_related.ensures.ran (YieldsList-from_range 0 n n (cc) (omega arith)) (λ x b q k. search (rules, tests)) in
    first_passes _ _ _ (sym (number_said (goal.at.returns c).After-unless) ∙ c.in_ok-unless.was)
    (c.unless-2.ensures ∙ refused_by (λ g. related g.interval a.f.interval) Unrelated a.list.now n c.all-is_related.result c.count-n.ensures.0 is_related)
