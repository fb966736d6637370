-- `printing::print::print_lines` meets its contract.
-- Assumes nothing.
use Rattle.lists.specs.Lists.{flows_from}
use Rattle.sheets.specs.Texts.{text}
use Rattle.words.specs.Places.{Prints}
use Rattle.printing.proofs.print.print_lines.Given as goal

abbrev pub invariant-loop-i : goal.invariant-loop-i
invariant-loop-i l = Prints l.initial.room 0 (text (flows_from l.list 0 l.i)) l.at l.room
