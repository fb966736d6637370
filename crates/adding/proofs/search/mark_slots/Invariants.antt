-- `adding::search::mark_slots` meets its contract.
-- Assumes nothing.
use Rattle.std.proofs.Common.{◌-◌, ◌≤◌}
use Rattle.adding.specs.Parts.{Laid}
use Rattle.adding.proofs.search.mark_slots.Given as goal

abbrev pub invariant-loop-slot : goal.invariant-loop-slot
invariant-loop-slot l = (l.start ≤ l.slot) × (l.slot ≤ l.end) × Laid l.initial.taken l.interval l.start l.slot l.taken

abbrev pub decreases-loop-slot : goal.decreases-loop-slot
decreases-loop-slot l = l.end - l.slot
