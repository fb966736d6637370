-- `accepting::chain::field_test` meets its contract.
-- Assumes nothing.
use Rattle.std.proofs.Common.{rules, ◌≡◌, ◌+◌, ◌<◌, arith, sym, ap, ◌∙◌}
use Rattle.flows.specs.Flows.{no_flow, keeps}
use Rattle.refusals.specs.declared.Refusal.TheVariants.{Field}
use Rattle.refusals.specs.Tests.{◌⟫◌}
use Rattle.refusals.proofs.Walks.{walk, walk_alone, walk-turn, walk_end}
use Rattle.lists.specs.Lists.{count, flows_of}
use Rattle.lists.specs.Tests.{test4}
use Rattle.lists.proofs.Records.{length-flows, flow_is}
use Rattle.accepting.proofs.chain.field_test.Goals as goal
use Rattle.accepting.proofs.chain.field_test.Goals.{After-unless}

pub loop-i-init : goal.loop-i-init
unfolding test4
loop-i-init c = walk_alone Field keeps (flows_of c.args.list.now) no_flow

-- what is said from record i on
turn : (c : After-unless) → let fs = flows_of c.args.list.now in
    let i = c.loop-i.i in
    walk Field (λ _ f. keeps f) fs no_flow i ≡ c.unless.result ⟫ walk Field (λ _ f. keeps f) fs no_flow (i + 1)
turn c =
    let l = c.args.list.now in
    let h : c.loop-i.i < count l = omega (arith, c.count-i-end.ensures) in
    rw c.unless.ensures (walk-turn Field (λ _ f. keeps f) (flows_of l) no_flow c.loop-i.i (omega (arith, c.count-i-end.ensures, length-flows l)) _ (c.keeps.ensures ∙ ap keeps (flow_is l c.loop-i.i _ h c.flow_at.ensures)))

pub returns-in_err-unless : goal.returns-in_err-unless
returns-in_err-unless c = search (rules, turn (goal.at.returns-in_err-unless c).After-unless)

pub loop-i-preserved : goal.loop-i-preserved
loop-i-preserved c = search (rules, turn (goal.at.loop-i-preserved c).After-unless)

pub returns : goal.returns
returns c = walk_end Field (λ _ f. keeps f) (flows_of c.args.list.now) no_flow c.loop-i.i (omega (arith, c.count-i-end.ensures, length-flows c.args.list.now)) ∙ c.loop-i.invariant
