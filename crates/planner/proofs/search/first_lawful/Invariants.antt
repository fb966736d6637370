-- `planner::search::first_lawful` meets its contract. Assumes nothing.
use Rattle.std.proofs.Common.{◌≡◌, length, drop}
use Rattle.planner.specs.Cells.{Starts, opens, runs}
use Rattle.planner.proofs.search.first_lawful.Given as goal

abbrev pub invariant-loop-push : goal.invariant-loop-push
invariant-loop-push l =
    opens l.frame l.size l.over (drop l.k l.contents) (drop l.k l.limits) ≡ runs l.frame l.push l.behind.a.rest.now l.behind.b.rest.now

abbrev pub invariant-frames : goal.invariant-frames
invariant-frames l = (l.frames.end ≡ length l.contents) × Starts l.frame l.size l.contents l.limits l.frames.start l.over
