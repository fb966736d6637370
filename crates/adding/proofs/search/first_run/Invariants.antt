-- `adding::search::first_run` meets its contract.
-- Assumes nothing.
use Rattle.std.proofs.Common.{◌-◌, ◌≤◌}
use Rattle.adding.proofs.Runs.{Run}
use Rattle.adding.proofs.search.first_run.Given as goal

abbrev pub invariant-loop-offset : goal.invariant-loop-offset
invariant-loop-offset l = (l.place ≤ 4104) × Run l.taken l.size l.interval l.offset l.place

abbrev pub decreases-loop-offset : goal.decreases-loop-offset
decreases-loop-offset l = l.interval - l.place
