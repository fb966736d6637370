-- `planner::frames::repeat` meets its contract. Assumes nothing.
use Rattle.std.proofs.Common.{◌≡◌, ◌++◌, ℕ, ◌*◌, length, take, drop}
use Rattle.placing.specs.Rule.{rep}
use Rattle.planner.proofs.frames.repeat.Given as goal

abbrev pub invariant-loop-k : goal.invariant-loop-k
invariant-loop-k l =
    (r : ℕ) → length l.initial.cells ≡ r * l.width → l.cells ≡ take l.k (rep r (take l.width l.initial.cells)) ++ drop l.k l.initial.cells
