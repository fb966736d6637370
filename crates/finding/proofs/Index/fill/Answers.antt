-- `finding::Index::fill` meets its contract.
-- Assumes nothing.
use Rattle.std.proofs.Common.{refl, ◌-◌, arith, rules, length-set}
use Rattle.lists.specs.Lists.{flows_of}
use Rattle.lists.proofs.Records.{length-flows, flow_is}
use Rattle.finding.proofs.Records.{noted-none, noted-next}
use Rattle.finding.proofs.Index.fill.Goals as goal

pub loop-i-init : goal.loop-i-init
loop-i-init c =
    let l = c.args.list.now in
    let some = c.count.ensures.0 in
    (refl, search rules, λ h. noted-none (flows_of l) c.min-i.result c.args.self.now.nexts (omega (arith, length-flows l)) (omega (arith, length-flows l)))

pub loop-i-preserved : goal.loop-i-preserved
loop-i-preserved c =
    let v = c.loop-i in
    let l = c.args.list.now in
    let f = c.flow_at in
    let some = c.count.ensures.0 in (
      simp length-set v.invariant.0,
      simp length-set v.invariant.1,
      λ h.
          rw c.last_bits-bits.ensures.0
          (noted-next (flows_of l) v.self.firsts v.self.nexts v.i (v.i - 1) f.result (v.invariant.2 h) v.invariant.0 v.invariant.1 (omega arith) (omega (arith, length-flows l))
          (flow_is l (v.i - 1) f.result (omega arith) f.ensures)),
    )
