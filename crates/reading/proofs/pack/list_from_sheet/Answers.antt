-- `reading::pack::list_from_sheet` meets its contract.
-- Assumes nothing.
use mathlib.Core.Path.{◌≡◌, sym, ◌∙◌}
use Prim.Native.Nat.{◌≤◌}
use native.Mathlib.Omega.{arith}
use Rattle.std.proofs.lemmas.Result.{err_from_is_err_and}
use native.Mathlib.Nat.{le_refl}
use lib.ListN.{length, replicate}
use Rattle.refusals.specs.Results.{Passed}
use Rattle.refusals.proofs.Rooms.{ends-refused, ends_short, ends-written}
use Rattle.lists.specs.Lists.{list_of, place}
use Rattle.lists.proofs.RoundTrip.{length_list}
use Rattle.sheets.specs.Readings.{flows_in}
use Rattle.sheets.specs.Tests.{sheet_tests}
use Rattle.sheets.proofs.Tests.{refused-found, lines-found, sound}
use Rattle.sheets.proofs.Packing.{list_packed}
use Rattle.reading.proofs.pack.list_from_sheet.Goals as goal
use Rattle.reading.proofs.pack.list_from_sheet.Goals.{In_ok-n}

-- the sheet passes, and n is how many lines it has
found : (c : In_ok-n) → let s = c.args.sheet.now in
    let n = c.in_ok-n.n in
    (sheet_tests s ≡ Passed) × (n ≡ length (flows_in s)) × (n ≤ 128)
found c =
    let f = lines-found _ _ (sym c.survey_of.ensures.value ∙ c.in_ok-n.was) in
    (f.0, f.1, omega (arith, f.1, (sound _ f.0).few))

pub overflow_mul-size : goal.overflow_mul-size
overflow_mul-size c = omega (arith, (found (goal.at.overflow_mul-size c).In_ok-n).2)

pub overflow_add-size : goal.overflow_add-size
overflow_add-size c = omega (arith, (found (goal.at.overflow_add-size c).In_ok-n).2)

pub returns-then-room-size : goal.returns-then-room-size
returns-then-room-size c =
    let f = found (goal.at.returns-then-room-size c).In_ok-n in
    let whole = ends_short _ (list_of (flows_in c.args.sheet.now)) c.args.room.now f.0 (omega (arith, f.1, length_list (flows_in c.args.sheet.now), c.if-room-size.true)) in record { value = whole.0; room_after = whole.1 }

pub overflow_cast-n : goal.overflow_cast-n
overflow_cast-n c = omega (arith, (found (goal.at.overflow_cast-n c).In_ok-n).2)

pub slice_bounds-put-end : goal.slice_bounds-put-end
slice_bounds-put-end c = omega (arith, (found (goal.at.slice_bounds-put-end c).In_ok-n).2, c.survey_of.auto.list)

pub returns-in_err-n : goal.returns-in_err-n
returns-in_err-n c =
    let out = err_from_is_err_and c.from_residual.result c.from_residual.ensures.1 in
    let whole = ends-refused _ (list_of (flows_in c.args.sheet.now)) c.args.room.now _ (refused-found c.args.sheet.now _ (sym c.survey_of.ensures.value ∙ c.in_err-n.was)) in
    record { value = rw (out.1, out.2) whole.0; room_after = whole.1 }

pub returns : goal.returns
returns c =
    let f = found (goal.at.returns c).In_ok-n in
    let fs = flows_in c.args.sheet.now in
    let room = c.args.room.now in
    let size : place c.in_ok-n.n ≡ length (list_of fs) = omega (arith, f.1, length_list fs) in
    let whole = ends-written _ (list_of fs) room _ _ f.0 (omega (arith, size, c.if-room-size.false)) size
    (list_packed fs _ (replicate 772 0) c.survey_of.new.list room c.write_head.new.room c.put.new.room f.1 f.2 (le_refl 772) c.if-room-size.false (c.survey_of.ensures.recorded f.0) c.write_head.ensures.room_after c.put.ensures.room_after) in record { value = whole.0; room_after = whole.1 }
