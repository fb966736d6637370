-- `adding::writing::write_grants` meets its contract.
-- Assumes nothing.
use Rattle.std.proofs.Common.{◌≡◌, ◌/◌, length}
use Rattle.tables.specs.Tables.{cycle_of, grants_of as grants_in}
use Rattle.adding.proofs.Merging.{Merging}
use Rattle.adding.proofs.writing.write_grants.Given as goal

abbrev pub invariant-loop-k : goal.invariant-loop-k
invariant-loop-k l = (length l.room ≡ length l.initial.room) × Merging (grants_in l.table) l.f l.offset (cycle_of l.table / l.f.interval) l.initial.room l.i l.k l.room
