-- `planner::groups::settle_group` meets its contract. Assumes nothing.
use Rattle.std.proofs.Common.{◌≡◌, ℕ, length, drop}
use Rattle.lists.specs.Lists.{flows_of}
use Rattle.planner.specs.Cells.{Reached, end_cells}
use Rattle.planner.specs.Order.{Group}
use Rattle.planner.proofs.Turns.{rest}
use Rattle.planner.proofs.Ordering.{Passing}
use Rattle.planner.proofs.groups.settle_group.Given as goal

abbrev pub invariant-loop-j : goal.invariant-loop-j
invariant-loop-j l =
    (length l.limits ≡ length l.initial.limits) × (length l.bases ≡ length l.initial.bases)
    × ((n : ℕ) → Group l.list l.group n
    → Passing l.list n (λ i. end_cells l.frame n i l.contents l.limits l.frames l.bases (rest l.list i) ≡ end_cells l.frame n 0 l.contents l.initial.limits l.frames l.initial.bases (flows_of l.list)) (drop l.j-index l.group))
    × Reached l.frame l.contents l.from.at l.from.over
