-- `adding::search::mark_grants` meets its contract.
-- Assumes nothing.
use Rattle.lists.specs.Lists.{flows_of}
use Rattle.tables.specs.Tables.{grants_of as grants_in}
use Rattle.adding.specs.Parts.{Overlaid}
use Rattle.adding.proofs.search.mark_grants.Given as goal

abbrev pub invariant-loop-i : goal.invariant-loop-i
invariant-loop-i l = Overlaid (flows_of l.list) (grants_in l.table) l.i l.interval l.taken
