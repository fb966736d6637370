-- `pairing::numbers::number_test` meets its contract.
-- Assumes nothing.
use Rattle.std.proofs.Common.{rules, ◌≡◌, refl, ap, ◌∙◌, ◌<◌, not}
use native.Mathlib.Omega.{arith}
use Rattle.marks.specs.Marks.{marked}
use Rattle.flows.specs.Flows.{no_flow}
use Rattle.refusals.specs.declared.Refusal.TheVariants.{UsedNumber}
use Rattle.refusals.proofs.Walks.{before}
use Rattle.lists.specs.Lists.{count, flows_of}
use Rattle.lists.specs.Tests.{new_number, test5}
use Rattle.pairing.proofs.Verdicts.{settled_end, settled-next, settled_here}
use Rattle.pairing.proofs.Noting.{noted-none, noted_more}
use Rattle.pairing.proofs.numbers.number_test.Goals as goal
use Rattle.pairing.proofs.numbers.number_test.Goals.{After-marked}

pub loop-i-init : goal.loop-i-init
loop-i-init c = record { noted = noted-none; settled = refl }

-- no earlier record has the record's number, or one has
judged : (c : After-marked) → not c.marked.result ≡ new_number (before (flows_of c.args.list.now) no_flow c.loop-i.i) c.flow_at-x.result
unfolding new_number
judged c =
    let v = c.loop-i in
    let told : c.marked.result ≡ marked v.bits c.flow_at-x.result.number = c.marked.ensures in
    ap not told ∙ v.invariant.noted c.flow_at-x.result.number

pub returns-then-marked : goal.returns-then-marked
unfolding test5
returns-then-marked c =
    let v = c.loop-i in
    let f = c.flow_at-x in
    settled_here UsedNumber new_number c.args.list.now v.i v.invariant.settled (omega (arith, c.count-n.ensures.0)) f.result f.ensures _
    (judged (goal.at.returns-then-marked c).After-marked) (ap not c.if-marked.true)

pub loop-i-preserved : goal.loop-i-preserved
loop-i-preserved c =
    let v = c.loop-i in
    let l = c.args.list.now in
    let f = c.flow_at-x in
    let inside : v.i < count l = omega (arith, c.count-n.ensures.0) in
    record {
      noted = noted_more l v.i f.result v.bits _ inside f.ensures (search rules) v.invariant.noted c.mark.ensures;
      settled = settled-next UsedNumber new_number l v.i v.invariant.settled inside f.result f.ensures _
          (judged (goal.at.loop-i-preserved c).After-marked) (ap not c.if-marked.false);
    }

pub returns : goal.returns
unfolding test5
returns c =
    let v = c.loop-i in
    settled_end UsedNumber new_number c.args.list.now v.i v.invariant.settled (omega (arith, c.count-n.ensures.0))
