-- `checking::pair::Pair::faults` meets its contract.
-- Assumes nothing.
use Rattle.std.proofs.Common.{◌≡◌, sym, ◌∙◌, ◌+◌, Some, None, Err, arith}
use Rattle.std.proofs.lemmas.Grind.{common_steps}
use Rattle.refusals.specs.declared.Refusal.TheVariants.{UnknownFlow}
use Rattle.law.specs.Check.{listed}
use Rattle.finding.proofs.Places.{found-not}
use Rattle.checking.specs.Parts.{flows_in, grants_in}
use Rattle.checking.proofs.Cells.{lasts_none, lasts_next}
use Rattle.checking.proofs.Taken.{taken}
use Rattle.checking.proofs.Walked.{walked_none, walked_next, walked_unknown, walked_end}
use Rattle.checking.proofs.pair.Pair.faults.Goals as goal

pub loop-i-init : goal.loop-i-init
loop-i-init c =
    let pair = c.args.self.now in
    let fs = flows_in pair in
    let gs = grants_in pair in
    (lasts_none fs gs pair.sound.accepted.few, walked_none fs gs)

pub returns-in_err-k : goal.returns-in_err-k
unfolding listed
returns-in_err-k c =
    let v = c.loop-i in
    let pair = c.args.self.now in
    let none : c.record_of.result ≡ None = grind (arith, common_steps) in
    let refused : c.from_residual.result ≡ Err (UnknownFlow (v.i + 1)) = grind (arith, common_steps) in
    rw refused
    (walked_unknown (flows_in pair) (grants_in pair) v.i v.seen v.invariant.1 (omega arith) c.grant_at-g.result (c.grant_at-g.ensures.read (omega arith))
    (found-not (flows_in pair) c.grant_at-g.result.flow (sym none ∙ c.record_of.ensures.value)))

pub loop-i-preserved : goal.loop-i-preserved
unfolding listed
loop-i-preserved c =
    let v = c.loop-i in
    let pair = c.args.self.now in
    let fs = flows_in pair in
    let gs = grants_in pair in
    let g = c.grant_at-g in
    let f = c.flow_at-f in
    let k = c.in_ok-k.k in
    let here = g.ensures.read (omega arith) in
    let some : c.record_of.result ≡ Some k = grind (arith, common_steps) in
    let of = taken fs gs v.i v.cells g.result k f.result v.invariant.0 (sym some ∙ c.record_of.ensures.value) f.ensures in
    let few = pair.sound.accepted.few in
    let inside = of.inside in (
      lasts_next fs gs pair.sound.accepted.distinct v.i v.cells v.invariant.0 g.result here k of.inside (omega arith) of.number c.stamp.result (omega arith),
      rw c.next-seen.ensures
          (walked_next fs gs v.i v.seen v.invariant.1 (omega arith) g.result here of.listed f.result of.own c.timely.result (c.timely.ensures ∙ of.timed) pair.cycle pair.sound.own),
    )

pub returns : goal.returns
returns c =
    let v = c.loop-i in
    let pair = c.args.self.now in
    walked_end (flows_in pair) (grants_in pair) v.i v.seen v.invariant.1 (omega arith)
