-- `checking::pair::Pair::test_15` meets its contract.
-- Assumes nothing.
use Rattle.std.proofs.Common.{rules, ◌≡◌, ◌∙◌, ◌+◌, arith}
use Rattle.flows.specs.Flows.{no_flow}
use Rattle.refusals.specs.declared.Refusal.TheVariants.{GrantCount}
use Rattle.refusals.specs.Tests.{◌⟫◌}
use Rattle.refusals.proofs.Walks.{walk, walk_alone, walk-turn, walk_end}
use Rattle.law.specs.Check.{counted, test15}
use Rattle.checking.specs.Parts.{flows_in, grants_in}
use Rattle.checking.proofs.Cells.{counted_is}
use Rattle.checking.proofs.pair.Pair.test_15.Goals as goal
use Rattle.checking.proofs.pair.Pair.test_15.Goals.{After-unless}

pub loop-i-init : goal.loop-i-init
unfolding test15
loop-i-init c =
    let pair = c.args.self.now in
    walk_alone GrantCount (counted (flows_in pair) (grants_in pair)) (flows_in pair) no_flow

-- record i is counted, and then the rest
turn : (c : After-unless) → let fs = flows_in c.args.self.now in
    let ok = counted fs (grants_in c.args.self.now) in
    let i = c.loop-i.i in
    walk GrantCount (λ _ f. ok f) fs no_flow i ≡ c.unless.result ⟫ walk GrantCount (λ _ f. ok f) fs no_flow (i + 1)
turn c =
    let i = c.loop-i.i in
    let pair = c.args.self.now in
    let fs = flows_in pair in
    let gs = grants_in pair in
    let counts = c.count_grants in
    let here = c.flow_at.ensures (omega arith) in
    rw c.unless.ensures
    (walk-turn GrantCount (λ _ f. counted fs gs f) fs no_flow i (omega arith) _
    (counted_is fs gs counts.new.cells i c.flow_at.result pair.cycle c.times-due.result counts.ensures (omega arith) here pair.sound.own c.times-due.ensures))

pub returns-in_err-unless : goal.returns-in_err-unless
returns-in_err-unless c = search (rules, turn (goal.at.returns-in_err-unless c).After-unless)

pub loop-i-preserved : goal.loop-i-preserved
loop-i-preserved c = search (rules, turn (goal.at.loop-i-preserved c).After-unless)

pub returns : goal.returns
returns c =
    let v = c.loop-i in
    let pair = c.args.self.now in
    walk_end GrantCount (λ _ f. counted (flows_in pair) (grants_in pair) f) (flows_in pair) no_flow v.i (omega arith) ∙ v.invariant
