-- `checking::pair::Pair::faults` meets its contract.
-- Assumes nothing.
use Rattle.checking.proofs.Cells.{Lasts}
use Rattle.checking.proofs.Walked.{Walked}
use Rattle.checking.specs.Parts.{flows_in, grants_in}
use Rattle.checking.proofs.pair.Pair.faults.Given as goal

abbrev pub invariant-loop-i : goal.invariant-loop-i
invariant-loop-i l = Lasts (flows_in l.self) (grants_in l.self) l.i l.cells × Walked (flows_in l.self) (grants_in l.self) l.i l.seen
