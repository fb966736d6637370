-- `planner::groups::settle_group` meets its contract. Assumes nothing.
use Rattle.std.proofs.Common.{◌≡◌, refl, sym, ap, ◌∙◌, ℕ, ◌+◌, ◌<◌, arith, length, get_or, drop}
use Rattle.flows.specs.declared.flow.Flow.{Flow}
use Rattle.lists.specs.Lists.{count, flows_of}
use Rattle.planner.specs.Cells.{end_cells}
use Rattle.planner.specs.Order.{Group}
use Rattle.planner.proofs.Starts.{reached_front}
use Rattle.planner.proofs.Turns.{rest, settle_turn, settle_skip, settle_end}
use Rattle.planner.proofs.Ordering.{Member, passing-start, passing-next, passing_on, passing_end}
use Rattle.planner.proofs.groups.settle_group.Goals as goal
use Rattle.planner.proofs.groups.settle_group.Goals.{After-from-i}

-- the turn's flow is the next member of the group
member : (c : After-from-i) → let a = c.args in let v = c.loop-j in (n : ℕ) → Group a.list.now a.group.now n
    → Member a.list.now n (λ i. end_cells a.frame n i a.contents.now v.limits a.frames.now v.bases (rest a.list.now i) ≡ end_cells a.frame n 0 a.contents.now a.limits.now a.frames.now a.bases.now (flows_of a.list.now))
    c.from-i.result (drop (v.j-index + 1) a.group.now)
member c n g =
    let a = c.args in
    let v = c.loop-j in
    passing-next a.list.now n _ (λ i h o e. sym (settle_skip a.list.now i a.frame n a.contents.now v.limits a.frames.now v.bases h o) ∙ e) a.group.now v.j-index (v.invariant.2 n g)
    c.from-i.result c.loop-j-test.true c.from-i.ensures

pub loop-j-init : goal.loop-j-init
loop-j-init c =
    let a = c.args in
    (refl, refl, λ n g. passing-start a.list.now n _ a.group.now g refl, reached_front a.frame a.contents.now)

-- it is one of the list, and has a frame of the window
inside : (c : After-from-i) → let i = c.from-i.result in (i < count c.args.list.now) × (get_or c.args.frames.now i 0 < length c.args.contents.now)
inside c =
    let p = c.requires.placed in
    let w = member c p.0 p.1 in
    (w.there, p.2 c.from-i.result w.there w.own)

pub settle-from-requires-clause-lengths : goal.settle-from-requires-clause-lengths
settle-from-requires-clause-lengths c = omega (arith, c.requires, c.loop-j.invariant.0, c.loop-j.invariant.1, inside (goal.at.settle-from-requires-clause-lengths c).After-from-i)

pub settle-from-requires-clause-frame_inside : goal.settle-from-requires-clause-frame_inside
settle-from-requires-clause-frame_inside c =
    let k = (inside (goal.at.settle-from-requires-clause-frame_inside c).After-from-i).1 in
    (k, c.requires.overhangs_fit _ k)

pub loop-j-preserved : goal.loop-j-preserved
loop-j-preserved c =
    let v = c.loop-j in
    let a = c.args in (
      c.settle-from.auto.limits ∙ v.invariant.0,
      c.settle-from.auto.bases ∙ v.invariant.1,
      λ n g.
          let w = member (goal.at.loop-j-preserved c).After-from-i n g in
          passing_on w
          (sym (settle_turn a.list.now c.from-i.result a.frame n a.contents.now v.limits a.frames.now v.bases
          _ c.settle-from.new.limits c.settle-from.new.bases w.there w.own (ap (λ (f : Flow). f.jitter) c.flow_at-jitter.ensures) c.settle-from.ensures.ended)
          ∙ w.holds),
      c.settle-from.ensures.reached_after,
    )

pub returns : goal.returns
returns c = λ n g. let v = c.loop-j in
    let a = c.args in
    sym (settle_end a.list.now _ a.frame n a.contents.now v.limits a.frames.now v.bases (omega arith))
    ∙ passing_end a.list.now n _ (λ i h o e. sym (settle_skip a.list.now i a.frame n a.contents.now v.limits a.frames.now v.bases h o) ∙ e) a.group.now v.j-index (v.invariant.2 n g) c.loop-j-test.false
