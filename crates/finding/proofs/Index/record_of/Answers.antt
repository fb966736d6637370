-- `finding::Index::record_of` meets its contract.
-- Assumes nothing.
use Rattle.std.proofs.Common.{◌≡◌, ap, ◌∙◌, get_or, arith}
use Rattle.flows.specs.declared.flow.Flow.{Flow}
use Rattle.flows.specs.Flows.{no_flow}
use Rattle.lists.specs.Lists.{flows_of}
use Rattle.lists.proofs.Records.{length-flows, flow_is}
use Rattle.finding.specs.Parts.{Indexed}
use Rattle.finding.proofs.Records.{behind_is, sought_next, sought_none, sought_here}
use Rattle.finding.proofs.Index.record_of.Goals as goal
use Rattle.finding.proofs.Index.record_of.Goals.{After-flow_at}

-- where the records are noted, the number that was read is that of flow k
read : (c : After-flow_at) → let l = c.args.list.now in
    Indexed (flows_of l) c.args.self.now → c.flow_at.result.number ≡ (get_or (flows_of l) c.in-Some.k no_flow).number
read c i =
    let l = c.args.list.now in
    let here = (c.loop-next.invariant.sought i).inside c.in-Some.k c.in-Some.is in
    ap (λ (f : Flow). f.number) (flow_is l c.in-Some.k c.flow_at.result (omega (arith, length-flows l)) c.flow_at.ensures)

pub returns-then-flow_at-number : goal.returns-then-flow_at-number
returns-then-flow_at-number c =
    λ i. sought_here _ c.args.self.now i _ _ (c.loop-next.invariant.sought i) _ c.in-Some.is (omega (arith, read (goal.at.returns-then-flow_at-number c).After-flow_at i))

pub loop-next-preserved : goal.loop-next-preserved
loop-next-preserved c = record {
  below = λ m e. (behind_is c.args.self.now.nexts c.in-Some.k m (cc)).1;
  sought = λ i. rw c.behind-next.ensures
      (sought_next _ c.args.self.now i _ _ (c.loop-next.invariant.sought i) _ c.in-Some.is
      (λ e. c.if-flow_at-number.false (read (goal.at.loop-next-preserved c).After-flow_at i ∙ e)));
}

pub returns : goal.returns
returns c = λ i. sought_none _ c.args.self.now i _ _ (c.loop-next.invariant.sought i) c.in_default.is
