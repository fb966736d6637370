-- `printing::print::sheet_from_list` meets its contract.
-- Assumes nothing.
use Rattle.std.proofs.Common.{length, sym, rules, arith}
use Rattle.refusals.proofs.Rooms.{ends-refused, ends-written, room_short, room_long}
use Rattle.words.proofs.Prints.{prints_fits, prints_front}
use Rattle.lists.specs.Lists.{flows_of}
use Rattle.sheets.specs.Texts.{text}
use Rattle.printing.proofs.print.sheet_from_list.Goals as goal

pub returns-in_err-tests_1_to_4 : goal.returns-in_err-tests_1_to_4
returns-in_err-tests_1_to_4 c =
    let refused = ends-refused _ (text (flows_of c.args.list.now)) c.args.room.now _ (sym c.in_err-tests_1_to_4.ensures) in
    record { value = search (rules, refused.0); room_after = refused.1 }

pub returns-in_err-unless : goal.returns-in_err-unless
returns-in_err-unless c =
    let fits = prints_fits _ _ _ _ (length c.args.room.now) (omega arith) c.print_lines-size.ensures in
    let short = room_short _ (text (flows_of c.args.list.now)) c.args.room.now c.print_lines-size.result (sym c.in_ok-tests_1_to_4.ensures) fits _ c.in_err-unless.ensures in
    record { value = search (rules, short.0); room_after = short.1 }

pub returns : goal.returns
returns c =
    let fits = prints_fits _ _ _ _ _ (omega arith) c.print_lines-size.ensures in
    let passed = sym c.in_ok-tests_1_to_4.ensures in
    let long = room_long _ _ _ _ passed fits _ c.in_ok-unless.ensures in
    let front = prints_front _ _ _ _ long c.print_lines.ensures in
    let done = ends-written _ _ _ _ _ passed long front.0 front.1 in
    record { value = done.0; room_after = done.1 }
