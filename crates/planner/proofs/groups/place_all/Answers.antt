-- `planner::groups::place_all` meets its contract. Assumes nothing.
use Rattle.std.proofs.Common.{rules, Err, ◌≡◌, refl, sym, ap, ◌∙◌, Some, None, [], ◌∷◌, ◌++◌, ◌/◌, ◌≤◌, length, take, arith, length-take-le}
use Rattle.lists.specs.Lists.{flows_of}
use Rattle.planner.specs.Intervals.{next_interval}
use Rattle.planner.specs.State.{Ready}
use Rattle.lists.proofs.Cycle.{frame_pos}
use Rattle.planner.proofs.Bounds.{frames_le}
use Rattle.planner.proofs.Growing.{grown_all, grown_start}
use Rattle.planner.proofs.Ordering.{Coming, coming-none, Next, group-next}
use Rattle.planner.proofs.Reaching.{Upto, upto_start, ready_on, refused_on, next_on, upto_end}
use Rattle.planner.proofs.Housing.{housed_on}
use Rattle.planner.proofs.groups.place_all.Goals as goal
use Rattle.planner.proofs.groups.place_all.Goals.{After-from-window, At-loop-interval, In-Some}

-- the group that is next in the order, and its interval
next : (c : In-Some) → Next c.args.list.now c.loop-interval.invariant.1.0 c.in-Some.interval c.in-Some.group.now c.next.new.self.order.now
next c =
    let v = c.loop-interval in
    let r = v.invariant.1 in
    group-next c.args.list.now v.interval-iterator.order.now r.0 c.in-Some.interval c.in-Some.group.now c.next.new.self.order.now r.4 (λ j e. (r.5.grown.next j e).1) (rw v.invariant.0 at c.in-Some.ensures.steps.1)

upto : (c : In-Some) → let v = c.loop-interval in let r = v.invariant.1 in
    Upto c.args.frame (Some c.in-Some.interval) r.1 v.width (flows_of c.args.list.now) r.2 r.3 v.contents v.limits v.frames v.bases
upto c = rw (next c).interval c.loop-interval.invariant.1.5

-- there are 256 frames
full : (c : At-loop-interval) → (length c.loop-interval.contents ≡ 256) × (length c.loop-interval.limits ≡ 256)
full c = (c.loop-interval.auto.contents ∙ ap length c.requires.empty.0, c.loop-interval.auto.limits ∙ ap length c.requires.empty.1)

-- the window of the next group is one of the frames that there are
inside : (c : After-from-window) → c.from-window.result ≤ 256
inside c =
    let i = (goal.at.After-from-window c).In-Some in
    rw (c.from-window.ensures, c.requires.accepted.1) (frames_le (flows_of c.args.list.now) c.requires.accepted.0 c.in-Some.interval ((upto i).grown.next _ refl).1)

-- and the groups before it are placed there
ready : (c : After-from-window) → let a = c.args in let v = c.loop-interval in let w = c.from-window.result in
    Ready a.frame c.in-Some.interval v.width (flows_of a.list.now) (take w v.contents) (take w v.limits) v.frames v.bases
ready c =
    let full = full (goal.at.After-from-window c).At-loop-interval in
    ready_on c.requires.accepted.0 (upto (goal.at.After-from-window c).In-Some) c.requires.accepted.1 c.from-window.result c.from-window.ensures full.0 full.1

pub loop-interval-init : goal.loop-interval-init
loop-interval-init c =
    let a = c.args in
    let fs = flows_of a.list.now in
    let f = c.requires.accepted.1 in
    let all : Coming a.list.now (Some a.frame) a.order.now = rw (f, (grown_start fs c.requires.accepted.0).order) c.requires.ordered in (
      rw c.into_iter-interval-iterator.ensures.into_iter_gives refl,
      (
        Some a.frame,
        a.frame,
        [],
        [] ∷ [],
        rw c.into_iter-interval-iterator.ensures.into_iter_gives all,
        rw f (upto_start fs a.contents.now a.limits.now a.frames.now a.bases.now c.requires.accepted.0 (ap (take 1) c.requires.empty.0) (ap (take 1) c.requires.empty.1)),
        tt,
      ),
    )

pub nonzero_div-interval : goal.nonzero_div-interval
nonzero_div-interval c = omega (arith, frame_pos (flows_of c.args.list.now) c.requires.accepted.0, c.requires.accepted.1)

pub slice_bounds-add_group-end : goal.slice_bounds-add_group-end
slice_bounds-add_group-end c = omega (arith, inside (goal.at.slice_bounds-add_group-end c).After-from-window, full (goal.at.slice_bounds-add_group-end c).At-loop-interval)

pub slice_bounds-add_group-end-in-loop-interval : goal.slice_bounds-add_group-end-in-loop-interval
slice_bounds-add_group-end-in-loop-interval c =
    let g = goal.at.slice_bounds-add_group-end-in-loop-interval c in
    sym (length-take-le c.from-window.result c.loop-interval.contents (omega (arith, inside g.After-from-window, full g.At-loop-interval)))

pub slice_bounds-add_group-end-in-loop-interval-2 : goal.slice_bounds-add_group-end-in-loop-interval-2
slice_bounds-add_group-end-in-loop-interval-2 c =
    let g = goal.at.slice_bounds-add_group-end-in-loop-interval-2 c in
    omega (arith, inside g.After-from-window, full g.At-loop-interval)

pub slice_bounds-add_group-end-in-loop-interval-3 : goal.slice_bounds-add_group-end-in-loop-interval-3
slice_bounds-add_group-end-in-loop-interval-3 c =
    let g = goal.at.slice_bounds-add_group-end-in-loop-interval-3 c in
    sym (length-take-le c.from-window.result c.loop-interval.limits (omega (arith, inside g.After-from-window, full g.At-loop-interval)))

pub add_group-requires-clause-ready : goal.add_group-requires-clause-ready
add_group-requires-clause-ready c =
    let g = goal.at.add_group-requires-clause-ready c in
    (c.in-Some.interval, (next g.In-Some).members, ready g.After-from-window)

pub returns-in_err-add_group-clause-finished : goal.returns-in_err-add_group-clause-finished
returns-in_err-add_group-clause-finished c =
    let g = goal.at.returns-in_err-add_group-clause-finished c in
    let full = full g.At-loop-interval in
    let p = c.in_err-add_group.field-0.0 in
    let r : c.from_residual.result ≡ Err p = search rules in
    rw r (refused_on c.requires.accepted.0 (upto g.In-Some) c.requires.accepted.1 c.from-window.result c.from-window.ensures full.0 full.1
    p c.add_group.result _ _ _ _ _ _ (c.add_group.ensures.added c.in-Some.interval (next g.In-Some).members) c.in_err-add_group.was)

pub loop-interval-preserved : goal.loop-interval-preserved
loop-interval-preserved c =
    let a = c.args in
    let v = c.loop-interval in
    let r = v.invariant.1 in
    let i = c.in-Some.interval in
    let w = c.from-window.result in
    let l = c.add_group.new in
    let g = goal.at.loop-interval-preserved c in
    let full = full g.At-loop-interval in
    let turn = next g.In-Some in
    let lawful = c.in_ok-add_group.was in
    let wide : length (take w v.contents) ≡ i / a.frame = length-take-le w v.contents (omega (arith, inside g.After-from-window, full)) ∙ c.from-window.ensures in
    let on =
    next_on c.requires.accepted.0 (upto g.In-Some) c.requires.accepted.1 w c.from-window.ensures full.0 full.1
    c.add_group.result l.contents l.limits l.frames l.bases c.add_group.auto.contents c.add_group.auto.limits (c.add_group.ensures.added i turn.members) lawful in (
      cc,
      (
        next_interval i None (flows_of a.list.now),
        i,
        r.2 ++ (i ∷ []),
        on.0,
        turn.behind,
        on.1,
        housed_on a.frame v.width i a.list.now v.frames l.frames r.2 ((upto g.In-Some).grown.next _ refl).2 r.6 (rw c.from-window.ensures at (inside g.After-from-window))
            (rw wide at (c.add_group.ensures.taken i turn.members (ready g.After-from-window) lawful)),
      ),
    )

-- all groups are placed
all : (c : goal.In-None) → c.loop-interval.invariant.1.0 ≡ None
all c =
    let v = c.loop-interval in
    let r = v.invariant.1 in
    coming-none c.args.list.now v.interval-iterator.order.now r.0 r.4 (λ j e. (r.5.grown.next j e).1) c.in-None.ensures.steps.1

pub returns-clause-finished : goal.returns-clause-finished
returns-clause-finished c = upto_end c.loop-interval.invariant.1.5 (all c)

pub returns-clause-housed : goal.returns-clause-housed
returns-clause-housed c = λ e. let r = c.loop-interval.invariant.1 in rw (sym (grown_all r.5.grown (all c))) r.6
