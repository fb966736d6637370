use Rattle.std.proofs.Common.{◌≤◌, length, sym, subst, rules, arith, length-take-le}
use Rattle.std.proofs.KnownBytes.{Appends-nil}
use Rattle.std.proofs.lemmas.Result.{on_ok_weaker}
use Rattle.std.specs.Io.KnownBytes.{Appends}
use Rattle.refusals.proofs.Rooms.{answer-fits}
use Rattle.plan.proofs.Inputs.{shown_none, shown_all, long_input, whole_input}
use Rattle.plan.proofs.print_plan.Given.{Over}
use Rattle.plan.proofs.print_plan.Goals as goal
use Rattle.plan.proofs.print_plan.Goals.{In-Ok}

-- what was written fits its room
fits : (g : Over) (c : In-Ok g) → c.in-Ok.k ≤ length c.sheet_text.new.room
fits g c = omega (arith, answer-fits _ _ _ _ (sym c.in-Ok.ensures.value), c.sheet_text.auto.room)

pub slice_bounds-room-end : goal.slice_bounds-room-end
slice_bounds-room-end g c = fits g (goal.at.slice_bounds-room-end g c).In-Ok

pub slice_bounds-write_all-end-in-Ok : goal.slice_bounds-write_all-end-in-Ok
slice_bounds-write_all-end-in-Ok g c = sym (length-take-le _ _ (fits g (goal.at.slice_bounds-write_all-end-in-Ok g c).In-Ok))

pub returns-then-n-gt65536 : goal.returns-then-n-gt65536
returns-then-n-gt65536 g c = on_ok_weaker _ (long_input _ _ _ _ _ _ c.in_ok-n.ensures.bytes c.if-n-gt65536.true c.in_ok-n.ensures.bound) c.write_all.ensures.bytes

pub returns-in-Err : goal.returns-in-Err
returns-in-Err g c =
    let none = shown_none _ _ c.in-Err.ensures.value in
    whole_input _ _ _ _ _ _ c.in_ok-n.ensures.bytes c.if-n-gt65536.false c.in_ok-n.ensures.bound (c.in_ok-n.ensures.end (omega arith)) (subst (Appends _ _) (sym none) (Appends-nil _))

pub returns-in-Ok : goal.returns-in-Ok
returns-in-Ok g c =
    let w = c.write_all-in-Ok in
    let all = shown_all _ _ _ _ (search rules) c.in-Ok.ensures.room_after c.in-Ok.ensures.value in
    let said = whole_input _ _ (g.W.Write.contents c.args.to.now) (g.W.Write.contents w.new.self) _ _ c.in_ok-n.ensures.bytes c.if-n-gt65536.false c.in_ok-n.ensures.bound (c.in_ok-n.ensures.end (omega arith)) in
    on_ok_weaker w.result (λ wrote. said (subst (Appends _ _) all wrote)) w.ensures.bytes
