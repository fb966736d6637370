-- `texts::line::print_refusal` meets its contract.
-- Assumes nothing.
use Rattle.words.proofs.Prints.{prints_then}
use Rattle.texts.specs.Texts.{piece, refusal_line, refusal_text}
use Rattle.texts.proofs.line.print_refusal.Goals as goal

pub returns : goal.returns
unfolding piece refusal_line refusal_text
returns c =
    let number = rw (c.from.ensures, c.number.ensures) at c.print_piece-at.ensures.printed in
    let place = rw c.place.ensures at c.print_piece-at-2.ensures.printed in
    prints_then _ _ _ _ _ _ _ _ number (prints_then _ _ _ _ _ _ _ _ place c.print.ensures.printed)
