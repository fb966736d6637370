-- `facts::span_of` meets its contract.
-- Assumes nothing.
use Rattle.std.proofs.Common.{ℕ, arith, ap₂, ◌∙◌}
use Rattle.lists.specs.Lists.{flows_of}
use Rattle.lists.proofs.Records.{length-flows, flow_is}
use Rattle.facts.proofs.Turns.{span-start, span-next, span_end}
use Rattle.facts.proofs.span_of.Goals as goal

pub loop-i-init : goal.loop-i-init
loop-i-init c = (omega arith, span-start _)

pub loop-i-preserved : goal.loop-i-preserved
loop-i-preserved c =
    let v = c.loop-i in
    let l = c.args.list.now in
    let h = c.count-i-end.ensures.0 in
    (omega (arith, c.max-cycle.ensures), rw (c.max-cycle.ensures, c.min-frame.ensures) (span-next (flows_of l) v.i v.cycle v.frame c.flow_at-f.result (omega (arith, h, length-flows l)) (flow_is l v.i _ (omega (arith, h)) c.flow_at-f.ensures) v.invariant.1))

pub returns : goal.returns
returns c =
    let v = c.loop-i in
    let l = c.args.list.now in
    let done = span_end (flows_of l) v.i v.cycle v.frame (omega (arith, c.count-i-end.ensures.0, length-flows l)) v.invariant.0 v.invariant.1 in
    ap₂ (λ (x y : ℕ). record { cycle = x; frame = y }) done.0 (c.min.ensures ∙ done.1)
