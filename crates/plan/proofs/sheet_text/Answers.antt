-- `plan::sheet_text` meets its contract.
-- Assumes nothing.
use Rattle.std.proofs.Common.{◌≤◌, length, sym, rules, arith, length-take-le}
use Rattle.refusals.proofs.Rooms.{answer-fits}
use Rattle.lists.specs.Lists.{list_of}
use Rattle.sheets.specs.Readings.{flows_in}
use Rattle.sheets.specs.Tests.{sheet_tests}
use Rattle.plan.specs.Printed.{list_text, sheet_text}
use Rattle.plan.proofs.Texts.{printed_refused, printed_made}
use Rattle.plan.proofs.sheet_text.Goals as goal
use Rattle.plan.proofs.sheet_text.Goals.{In-Ok}

-- what was made fits its room
fits : (c : In-Ok) → c.in-Ok.k ≤ length c.list_from_sheet.new.room
fits c = omega (arith, answer-fits _ _ _ _ (sym c.in-Ok.ensures.value), c.list_from_sheet.auto.room)

pub slice_bounds-list-end : goal.slice_bounds-list-end
slice_bounds-list-end c = fits (goal.at.slice_bounds-list-end c).In-Ok

pub slice_bounds-list_text-end : goal.slice_bounds-list_text-end
slice_bounds-list_text-end c = sym (length-take-le _ _ (fits (goal.at.slice_bounds-list_text-end c).In-Ok))

pub returns-in-Ok : goal.returns-in-Ok
unfolding sheet_text
returns-in-Ok c =
    let s = c.args.sheet.now in
    let e = printed_made (sheet_tests s) (list_of (flows_in s)) 772 list_text _ _ _ (search rules) c.list_from_sheet.ensures.room_after c.in-Ok.ensures.value in
    record { value = rw e at c.list_text.ensures.value; room_after = rw e at c.list_text.ensures.room_after }

pub returns-in-Err : goal.returns-in-Err
unfolding sheet_text
returns-in-Err c =
    let s = c.args.sheet.now in
    let e = printed_refused (sheet_tests s) (list_of (flows_in s)) 772 list_text _ c.in-Err.ensures.value in
    record { value = rw e at c.refusal_text.ensures.value; room_after = rw e at c.refusal_text.ensures.room_after }
