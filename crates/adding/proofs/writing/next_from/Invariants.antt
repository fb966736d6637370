-- `adding::writing::next_from` meets its contract.
-- Assumes nothing.
use Rattle.std.proofs.Common.{ℕ, ◌≤◌, ◌<◌}
use Rattle.tables.specs.Tables.{grant_at}
use Rattle.adding.proofs.writing.next_from.Given as goal

abbrev pub invariant-loop-j : goal.invariant-loop-j
invariant-loop-j l = (l.i ≤ l.j) × (l.j ≤ l.n) × ((p : ℕ) → l.i ≤ p → p < l.j → (grant_at l.table p).start < l.x)
