-- `checking::pair::Pair::count_grants` meets its contract.
-- Assumes nothing.
use Rattle.checking.proofs.Cells.{CountsAt}
use Rattle.checking.specs.Parts.{flows_in, grants_in}
use Rattle.checking.proofs.pair.Pair.count_grants.Given as goal

abbrev pub invariant-loop-i : goal.invariant-loop-i
invariant-loop-i l = CountsAt (flows_in l.self) (grants_in l.self) l.i l.cells
