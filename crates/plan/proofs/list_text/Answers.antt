-- `plan::list_text` meets its contract.
-- Assumes nothing.
use Rattle.std.proofs.Common.{◌≤◌, length, sym, rules, arith, length-take-le}
use Rattle.refusals.proofs.Rooms.{answer-fits}
use Rattle.planner.specs.Plan.{plan_tests, plan_table, plan_answer, plan_room}
use Rattle.texts.specs.Texts.{plan_text}
use Rattle.plan.specs.Printed.{list_text}
use Rattle.plan.proofs.Texts.{printed_refused, printed_made}
use Rattle.plan.proofs.list_text.Goals as goal
use Rattle.plan.proofs.list_text.Goals.{In-Ok}

-- what was made fits its room
fits : (c : In-Ok) → c.in-Ok.k ≤ length c.plan.new.room
unfolding plan_answer
fits c = omega (arith, answer-fits _ _ _ _ (sym c.in-Ok.ensures.value), c.plan.auto.room)

pub slice_bounds-table-end : goal.slice_bounds-table-end
slice_bounds-table-end c = fits (goal.at.slice_bounds-table-end c).In-Ok

pub slice_bounds-plan_text-end : goal.slice_bounds-plan_text-end
slice_bounds-plan_text-end c = sym (length-take-le _ _ (fits (goal.at.slice_bounds-plan_text-end c).In-Ok))

pub returns-in-Ok : goal.returns-in-Ok
unfolding list_text plan_answer plan_room
returns-in-Ok c =
    let l = c.args.list.now in
    let e = printed_made (plan_tests l 5128) (plan_table l) 5128 (plan_text l) _ _ _ (search rules) c.plan.ensures.room_after c.in-Ok.ensures.value in
    record { value = rw e at c.plan_text.ensures.value; room_after = rw e at c.plan_text.ensures.room_after }

pub returns-in-Err : goal.returns-in-Err
unfolding list_text plan_answer
returns-in-Err c =
    let l = c.args.list.now in
    let e = printed_refused (plan_tests l 5128) (plan_table l) 5128 (plan_text l) _ c.in-Err.ensures.value in
    record { value = rw e at c.refusal_text.ensures.value; room_after = rw e at c.refusal_text.ensures.room_after }
