-- `planner::groups::place_all` meets its contract. Assumes nothing.
use Rattle.std.proofs.Common.{◌≡◌, Option, List, ℕ}
use Rattle.logic.specs.Lists.{All}
use Rattle.lists.specs.Lists.{flows_of}
use Rattle.placing.specs.Rule.{Settled}
use Rattle.planner.specs.Finished.{Housed}
use Rattle.planner.proofs.Ordering.{Coming}
use Rattle.planner.proofs.Reaching.{Upto}
use Rattle.planner.proofs.groups.place_all.Given as goal

abbrev pub invariant-loop-interval : goal.invariant-loop-interval
invariant-loop-interval l =
    (l.interval-iterator.list.now ≡ l.list)
    × ((n : Option ℕ) × (t : ℕ) × (is : List ℕ) × (hs : List (List Settled)) × Coming l.list n l.interval-iterator.order.now
    × Upto l.frame n t l.width (flows_of l.list) is hs l.contents l.limits l.frames l.bases × All (Housed l.frame l.list l.frames) is)
