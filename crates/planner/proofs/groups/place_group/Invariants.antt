-- `planner::groups::place_group` meets its contract. Assumes nothing.
use Rattle.std.proofs.Common.{◌≡◌, ℕ, length, drop}
use Rattle.lists.specs.Lists.{flows_of}
use Rattle.planner.specs.Cells.{Starts, group_cells}
use Rattle.planner.specs.Order.{Group}
use Rattle.planner.proofs.Turns.{rest}
use Rattle.planner.proofs.Ordering.{Passing}
use Rattle.planner.proofs.groups.place_group.Given as goal

abbrev pub invariant-loop-j : goal.invariant-loop-j
invariant-loop-j l =
    (length l.contents ≡ length l.initial.contents) × (length l.frames ≡ length l.initial.frames)
    × ((n : ℕ) → Group l.list l.group n
    → Passing l.list n (λ i. group_cells l.frame n i l.contents l.limits l.frames (rest l.list i) ≡ group_cells l.frame n 0 l.initial.contents l.limits l.initial.frames (flows_of l.list)) (drop l.j-index l.group))
    × Starts l.frame l.least l.contents l.limits l.last.at l.last.over
