-- `texts::line::print_head` meets its contract.
-- Assumes nothing.
use Rattle.words.proofs.Prints.{prints_then}
use Rattle.texts.specs.Texts.{piece, head_line}
use Rattle.texts.proofs.line.print_head.Goals as goal

pub returns : goal.returns
unfolding piece head_line
returns c =
    let cycle = rw c.from.ensures at c.print_piece-at.ensures.printed in
    let frame = rw c.from-2.ensures at c.print_piece-at-2.ensures.printed in
    prints_then _ _ _ _ _ _ _ _ cycle (prints_then _ _ _ _ _ _ _ _ frame (prints_then _ _ _ _ _ _ _ _ c.print_piece-at-3.ensures.printed (prints_then _ _ _ _ _ _ _ _ c.print_piece-at-4.ensures.printed c.print.ensures.printed)))
