-- `planner::groups::place_group` meets its contract. Assumes nothing.
use Rattle.std.proofs.Common.{Some, Err, rules, ◌≡◌, refl, sym, ap, ap₂, ◌∙◌, List, ℕ, ◌+◌, ◌*◌, ◌<◌, arith, length, get_or, drop}
use native.Mathlib.Nat.{sub-zero}
use Rattle.logic.proofs.Tests.{by_lt}
use Rattle.lists.specs.Lists.{flow_at, flows_of}
use Rattle.lists.specs.Facts.{occupies}
use Rattle.planner.specs.Cells.{Starts, first, group_cells}
use Rattle.planner.specs.Order.{Group}
use Rattle.planner.proofs.Limits.{first_fits}
use Rattle.planner.proofs.Starts.{starts_front, starts_more, starts-put}
use Rattle.planner.proofs.Turns.{found_ok, found_err, rest, group_turn, group_stop, group_skip, group_end}
use Rattle.planner.proofs.Ordering.{Member, passing-start, passing-next, passing_on, passing_end}
use Rattle.planner.proofs.groups.place_group.Goals as goal
use Rattle.planner.proofs.groups.place_group.Goals.{After-occupies-size, After-from-i, In_ok-last}

-- the turn's flow is the next member of the group
member : (c : After-from-i) → let a = c.args in let v = c.loop-j in (n : ℕ) → Group a.list.now a.group.now n
    → Member a.list.now n (λ i. group_cells a.frame n i v.contents a.limits.now v.frames (rest a.list.now i) ≡ group_cells a.frame n 0 a.contents.now a.limits.now a.frames.now (flows_of a.list.now))
    c.from-i.result (drop (v.j-index + 1) a.group.now)
member c n g =
    let a = c.args in
    let v = c.loop-j in
    passing-next a.list.now n _ (λ i h o e. sym (group_skip a.list.now i a.frame n v.contents a.limits.now v.frames h o) ∙ e) a.group.now v.j-index (v.invariant.2 n g)
    c.from-i.result c.loop-j-test.true c.from-i.ensures

-- and takes its slots
size : (c : After-occupies-size) → c.occupies-size.result ≡ occupies (flow_at c.args.list.now c.from-i.result)
size c = c.occupies-size.ensures ∙ ap occupies c.flow_at.ensures

-- the frame that is found is the first lawful one, and the next search may start there
found : (c : In_ok-last) → let a = c.args in let v = c.loop-j in let r = c.in_ok-last.last in
    (first a.frame c.occupies-size.result 0 0 v.contents a.limits.now ≡ Some r.at) × Starts a.frame c.occupies-size.result v.contents a.limits.now r.at r.over
found c =
    let o = c.first_lawful in
    found_ok c.args.frame c.occupies-size.result c.loop-j.contents c.args.limits.now o.result (c.from-i.result + 1) c.in_ok-last.last o.ensures.found o.ensures.starts_there (sym c.ok_or.ensures.value ∙ c.in_ok-last.was)

-- it is one of the window, and its content and the flow fit a cell
fits : (c : In_ok-last) → let k = c.in_ok-last.last.at in let v = c.loop-j in
    (k < 256) × (k < length v.contents) × (get_or v.contents k 0 + c.occupies-size.result < 65536)
fits c =
    let v = c.loop-j in
    let a = c.args in
    let f = first_fits a.frame c.occupies-size.result 0 0 c.in_ok-last.last.at v.contents a.limits.now (found c).0 in
    let w : length v.contents * a.frame ≡ length a.contents.now * a.frame = ap (λ (x : ℕ). x * a.frame) v.invariant.0 in
    (omega (arith, f.upto, c.requires.window.1, v.invariant.0), omega (arith, f.upto), omega (arith, simp sub-zero at f.room, c.requires.window.2))

pub loop-j-init : goal.loop-j-init
loop-j-init c =
    let a = c.args in
    (refl, refl, λ n g. passing-start a.list.now n _ a.group.now g refl, starts_front a.frame a.contents.now a.limits.now 0)

pub first_lawful-requires-clause-starts : goal.first_lawful-requires-clause-starts
first_lawful-requires-clause-starts c =
    let v = c.loop-j in
    let a = c.args in
    let size = c.occupies-size.result in
    let from = c.search_start-from.ensures in
    by_lt size v.least
    (λ h. rw ((from.0 h).0, (from.0 h).1) (starts_front a.frame v.contents a.limits.now size))
    (λ h. rw ((from.1 h).0, (from.1 h).1) (starts_more a.frame v.contents a.limits.now v.least v.last.at v.last.over v.invariant.3 size h))

pub returns-in_err-last : goal.returns-in_err-last
returns-in_err-last c = λ n g. let v = c.loop-j in
    let a = c.args in
    let w = member (goal.at.returns-in_err-last c).After-from-i n g in
    let o = c.first_lawful in
    let none = found_err a.frame c.occupies-size.result v.contents a.limits.now o.result (c.from-i.result + 1) _ o.ensures.found (sym c.ok_or.ensures.value ∙ c.in_err-last.was) in
    let r : c.from_residual.result ≡ Err (c.from-i.result + 1) = search rules in
    rw r
    (sym (group_stop a.list.now c.from-i.result a.frame n v.contents a.limits.now v.frames
    c.occupies-size.result w.there w.own (size (goal.at.returns-in_err-last c).After-occupies-size) none.0)
    ∙ w.holds)

pub place-requires : goal.place-requires
place-requires c =
    let k = fits (goal.at.place-requires c).In_ok-last in
    let w = member (goal.at.place-requires c).After-from-i c.requires.grouped.0 c.requires.grouped.1 in
    (omega (arith, c.loop-j.invariant.1, c.requires.flows_fit, w.there), k.0, k.1, k.2)

pub loop-j-preserved : goal.loop-j-preserved
loop-j-preserved c =
    let v = c.loop-j in
    let a = c.args in
    let r = c.in_ok-last.last in
    let e = c.place.ensures in
    let frame = found (goal.at.loop-j-preserved c).In_ok-last in
    let began : Starts a.frame c.occupies-size.result c.place.new.contents a.limits.now r.at r.over =
    rw e.0 (starts-put a.frame v.contents a.limits.now c.occupies-size.result r.at r.over frame.1 (get_or v.contents r.at 0 + c.occupies-size.result) (omega arith)) in (
      c.place.auto.contents ∙ v.invariant.0,
      c.place.auto.frames ∙ v.invariant.1,
      λ n g.
          let w = member (goal.at.loop-j-preserved c).After-from-i n g in
          passing_on w
          (ap₂ (λ (x y : List ℕ). group_cells a.frame n (c.from-i.result + 1) x a.limits.now y (rest a.list.now (c.from-i.result + 1))) e.0 e.1
          ∙ sym (group_turn a.list.now c.from-i.result a.frame n v.contents a.limits.now v.frames c.occupies-size.result r.at w.there w.own (size (goal.at.loop-j-preserved c).After-occupies-size) frame.0)
          ∙ w.holds),
      (began.0, began.1),
    )

pub returns : goal.returns
returns c = λ n g. let v = c.loop-j in
    let a = c.args in
    sym (group_end a.list.now _ a.frame n v.contents a.limits.now v.frames (omega arith))
    ∙ passing_end a.list.now n _ (λ i h o e. sym (group_skip a.list.now i a.frame n v.contents a.limits.now v.frames h o) ∙ e) a.group.now v.j-index (v.invariant.2 n g) c.loop-j-test.false
