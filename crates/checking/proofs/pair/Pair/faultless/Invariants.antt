-- `checking::pair::Pair::faultless` meets its contract.
-- Assumes nothing.
use Rattle.checking.proofs.Cells.{Lasts}
use Rattle.checking.proofs.Walked.{Walked}
use Rattle.checking.proofs.Clean.{clean, Traces}
use Rattle.checking.specs.Parts.{flows_in, grants_in}
use Rattle.checking.proofs.pair.Pair.faultless.Given as goal

abbrev pub invariant-loop-i : goal.invariant-loop-i
invariant-loop-i l = Lasts (flows_in l.self) (grants_in l.self) l.i l.cells × Traces (flows_in l.self) (grants_in l.self) l.i l.cells × Walked (flows_in l.self) (grants_in l.self) l.i (clean l.last)
