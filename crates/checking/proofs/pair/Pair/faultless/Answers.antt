-- `checking::pair::Pair::faultless` meets its contract.
-- Assumes nothing.
use Rattle.std.proofs.Common.{◌≡◌, ℕ, true, ◌&&◌, sym, ap, ◌∙◌, ◌+◌, leb, get_or, arith}
use Rattle.std.proofs.lemmas.Bool.{leb-true}
use Rattle.logic.proofs.Tests.{and_both}
use Rattle.flows.specs.declared.flow.Flow.{Flow}
use Rattle.lists.specs.Facts.{occupies}
use Rattle.law.specs.Check.{listed}
use Rattle.checking.specs.Parts.{flows_in, grants_in, on_time}
use Rattle.checking.proofs.Cells.{lasts_none, lasts_next}
use Rattle.checking.proofs.Taken.{Taken, taken}
use Rattle.checking.proofs.Walked.{walked_none}
use Rattle.checking.proofs.Clean.{clean-next, clean_end, kept_at, traces_none, traces_next, traces_end}
use Rattle.checking.proofs.pair.Pair.faultless.Goals as goal
use Rattle.checking.proofs.pair.Pair.faultless.Goals.{After-flow_at-f}

pub loop-i-init : goal.loop-i-init
loop-i-init c =
    let pair = c.args.self.now in
    let fs = flows_in pair in
    let gs = grants_in pair in
    (lasts_none fs gs pair.sound.accepted.few, traces_none fs pair.sound.accepted gs, walked_none fs gs)

-- the flow that was read is the grant's
of : (c : After-flow_at-f) → let pair = c.args.self.now in
    let v = c.loop-i in
    Taken (flows_in pair) (grants_in pair) v.i v.cells c.grant_at-g.result c.in-Some.k c.flow_at-f.result
of c =
    let pair = c.args.self.now in
    let v = c.loop-i in
    taken (flows_in pair) (grants_in pair) v.i v.cells c.grant_at-g.result c.in-Some.k c.flow_at-f.result v.invariant.0 c.in-Some.ensures.value c.flow_at-f.ensures

pub overflow_add-end : goal.overflow_add-end
unfolding occupies
overflow_add-end c =
    let fs = flows_in c.args.self.now in
    let own = of (goal.at.overflow_add-end c).After-flow_at-f in
    let kept = kept_at fs c.args.self.now.sound.accepted c.in-Some.k own.inside in
    let small = c.grant_at-g.ensures.small in
    omega (arith, c.occupies.ensures, ap (λ (x : Flow). x.size) own.read)

pub loop-i-preserved : goal.loop-i-preserved
unfolding listed occupies
loop-i-preserved c =
    let v = c.loop-i in
    let pair = c.args.self.now in
    let fs = flows_in pair in
    let gs = grants_in pair in
    let g = c.grant_at-g in
    let f = c.flow_at-f in
    let k = c.in-Some.k in
    let end : ℕ = g.result.start + c.occupies.result in
    let here = g.ensures.read (omega arith) in
    let own = of (goal.at.loop-i-preserved c).After-flow_at-f in
    let kept = kept_at fs pair.sound.accepted k own.inside in
    let few = pair.sound.accepted.few in
    let inside = own.inside in
    let on : on_time f.result.jitter f.result.interval (get_or v.cells k 0) g.result.start g.result.late ≡ true = sym c.timely.ensures ∙ c.if-not-timely.false in
    let lies : leb v.last g.result.start && leb end pair.cycle ≡ true = sym c.lies.ensures ∙ c.if-not-lies.false in
    let ends = leb-true end pair.cycle (and_both (leb v.last g.result.start) (leb end pair.cycle) lies).1 in
    let cycle = pair.sound.own in
    let sized = ap (λ (x : Flow). x.size) own.read in
    let size = c.occupies.ensures in (
      lasts_next fs gs pair.sound.accepted.distinct v.i v.cells v.invariant.0 g.result here k own.inside (omega arith) own.number c.stamp.result (omega arith),
      rw c.stamp.ensures
          (traces_next fs pair.sound.accepted gs v.i v.cells v.invariant.1 (omega arith) g.result here k own.inside (omega arith) own.number f.result.jitter
          (ap (λ (y : Flow). on_time f.result.jitter y.interval (get_or v.cells k 0) g.result.start g.result.late) (sym own.read) ∙ on) end (omega arith) (omega arith)),
      clean-next fs gs v.i v.last v.invariant.2 (omega arith) g.result here own.listed f.result own.own (sym on ∙ own.timed) pair.cycle pair.sound.own end (omega arith) lies,
    )

pub returns : goal.returns
returns c =
    let v = c.loop-i in
    let pair = c.args.self.now in
    let fs = flows_in pair in
    let gs = grants_in pair in
    λ e. (clean_end fs gs v.i v.last v.invariant.2 (omega arith), traces_end fs pair.sound.accepted gs v.i v.cells (omega arith) v.invariant.1)
