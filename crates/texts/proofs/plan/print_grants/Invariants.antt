-- `texts::plan::print_grants` meets its contract.
-- Assumes nothing.
use Rattle.tables.specs.Tables.{grants_from}
use Rattle.texts.specs.Texts.{grant_lines}
use Rattle.words.specs.Places.{Prints}
use Rattle.texts.proofs.plan.print_grants.Given as goal

abbrev pub invariant-loop-i : goal.invariant-loop-i
invariant-loop-i l = Prints l.initial.room l.from (grant_lines (grants_from l.table 0 l.i)) l.at l.room
