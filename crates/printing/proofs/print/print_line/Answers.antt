-- `printing::print::print_line` meets its contract.
-- Assumes nothing.
use Rattle.std.proofs.Common.{arith}
use Rattle.words.proofs.Whole.{numeral-decimal}
use Rattle.words.proofs.Prints.{prints_then, prints_part}
use Rattle.sheets.specs.Texts.{piece, line}
use Rattle.printing.proofs.print.print_line.Goals as goal

pub returns : goal.returns
unfolding piece line
returns c =
    let r = c.requires in
    let number = rw (c.from.ensures, numeral-decimal _ r.0) at c.print_piece-end.ensures.printed in
    let size = rw (c.from-2.ensures, numeral-decimal _ r.1) at c.print_piece-end-2.ensures.printed in
    let interval = rw (c.from-3.ensures, numeral-decimal _ r.2) at c.print_piece-end-3.ensures.printed in
    let jitter = rw (c.from-4.ensures, numeral-decimal _ r.3) at c.print_piece-end-4.ensures.printed in
    let whole = prints_then _ _ _ _ _ _ _ _ number (prints_then _ _ _ _ _ _ _ _ size (prints_then _ _ _ _ _ _ _ _ interval (prints_then _ _ _ _ _ _ _ _ jitter c.print-size.ensures.printed))) in
    prints_part c.args.room.now c.args.at _ _ _ _ _ _ (omega arith) (omega arith) (omega arith) whole c.saturating_add.ensures
