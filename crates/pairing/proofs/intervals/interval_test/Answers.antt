-- `pairing::intervals::interval_test` meets its contract.
-- Assumes nothing.
use Rattle.std.proofs.Common.{◌≡◌, refl, ◌∙◌, ◌<◌}
use native.Mathlib.Omega.{arith}
use Rattle.flows.specs.Flows.{no_flow}
use Rattle.refusals.specs.declared.Refusal.TheVariants.{Unrelated}
use Rattle.refusals.proofs.Walks.{before}
use Rattle.lists.specs.Lists.{count, flows_of}
use Rattle.lists.specs.Tests.{related_interval, test6}
use Rattle.pairing.proofs.Verdicts.{settled_end, settled-next, settled_here, record_small}
use Rattle.pairing.proofs.Keeping.{chain_none, holds-none, holds_more}
use Rattle.pairing.proofs.intervals.interval_test.Goals as goal
use Rattle.pairing.proofs.intervals.interval_test.Goals.{After-keep}

pub loop-i-init : goal.loop-i-init
loop-i-init c = record { chain = chain_none; holds = holds-none; settled = refl }

pub keep-requires : goal.keep-requires
keep-requires c =
    let f = c.flow_at.result in
    let small : (f.number < 1024) × (f.interval < 8192) = rw c.flow_at.ensures (record_small c.args.list.now c.loop-i.i) in
    (omega (arith, small), c.loop-i.invariant.chain)

-- the record's interval is related to those of all earlier ones, or not
judged : (c : After-keep) → c.keep.result ≡ related_interval (before (flows_of c.args.list.now) no_flow c.loop-i.i) c.flow_at.result
unfolding related_interval
judged c = c.keep.ensures.value ∙ c.loop-i.invariant.holds c.flow_at.result.interval

pub returns-then-not-keep : goal.returns-then-not-keep
unfolding test6
returns-then-not-keep c =
    let v = c.loop-i in
    let f = c.flow_at in
    settled_here Unrelated related_interval c.args.list.now v.i v.invariant.settled (omega (arith, c.count-n.ensures.0)) f.result f.ensures _
    (judged (goal.at.returns-then-not-keep c).After-keep) c.if-not-keep.true

pub loop-i-preserved : goal.loop-i-preserved
loop-i-preserved c =
    let v = c.loop-i in
    let l = c.args.list.now in
    let f = c.flow_at in
    let passed = c.if-not-keep.false in
    let kept = c.keep.ensures.kept passed in
    let inside : v.i < count l = omega (arith, c.count-n.ensures.0) in
    record {
      chain = kept.chain;
      holds = holds_more l v.i f.result v.kept _ inside f.ensures v.invariant.holds kept;
      settled = settled-next Unrelated related_interval l v.i v.invariant.settled inside f.result f.ensures _ (judged (goal.at.loop-i-preserved c).After-keep) passed;
    }

pub returns : goal.returns
unfolding test6
returns c =
    let v = c.loop-i in
    settled_end Unrelated related_interval c.args.list.now v.i v.invariant.settled (omega (arith, c.count-n.ensures.0))
