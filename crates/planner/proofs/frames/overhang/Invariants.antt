-- `planner::frames::overhang` meets its contract. Assumes nothing.
use Rattle.planner.specs.Cells.{Reached}
use Rattle.planner.proofs.frames.overhang.Given as goal

abbrev pub invariant-loop-j : goal.invariant-loop-j
invariant-loop-j l = Reached l.frame l.contents l.j l.over
