-- `texts::line::print_grant` meets its contract.
-- Assumes nothing.
use Rattle.words.proofs.Prints.{prints_then}
use Rattle.texts.specs.Texts.{piece, grant_line}
use Rattle.texts.proofs.line.print_grant.Goals as goal

pub returns : goal.returns
unfolding piece grant_line
returns c =
    let start = rw c.from.ensures at c.print_piece-at.ensures.printed in
    let flow = rw c.from-2.ensures at c.print_piece-at-2.ensures.printed in
    let late = rw c.from-3.ensures at c.print_piece-at-3.ensures.printed in
    prints_then _ _ _ _ _ _ _ _ start (prints_then _ _ _ _ _ _ _ _ flow (prints_then _ _ _ _ _ _ _ _ late c.print.ensures.printed))
