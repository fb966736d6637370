-- `words::text::print_piece` meets its contract.
-- Assumes nothing.
use Rattle.std.proofs.Common.{sym, ◌∙◌, arith}
use Rattle.words.proofs.Whole.{length-numeral, numeral_is}
use Rattle.words.proofs.Prints.{prints_then, prints_put}
use Rattle.words.proofs.text.print_piece.Goals as goal

pub returns : goal.returns
returns c =
    let k = c.figures-k.ensures in
    let digits = rw (numeral_is _ _ k) at c.put_digits.ensures.room_after in
    let printed = c.print-end.ensures.printed in
    let number = prints_put _ _ _ _ _ _ (k ∙ sym (length-numeral c.args.v)) (omega arith) c.saturating_add.ensures digits in
    record { printed = prints_then _ _ _ _ _ _ _ _ printed number; room_after = rw (c.print-end.ensures.room_after, printed.place) at digits }
