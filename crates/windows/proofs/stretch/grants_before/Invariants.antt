-- `windows::stretch::grants_before` meets its contract.
-- Assumes nothing.
use Rattle.std.proofs.Common.{◌≡◌, ◌-◌, ◌≤◌}
use Rattle.refusals.specs.Results.{Passed}
use Rattle.tables.specs.Tables.{count, grants_of}
use Rattle.tables.specs.Form.{test12}
use Rattle.windows.specs.Window.{before}
use Rattle.windows.proofs.stretch.grants_before.Given as goal

abbrev pub invariant-loop-low : goal.invariant-loop-low
invariant-loop-low l = (l.low ≤ l.high) × (l.high ≤ count l.table) × (before l.a (grants_of l.table) ≤ l.high) × (test12 (grants_of l.table) ≡ Passed → l.low ≤ before l.a (grants_of l.table))

abbrev pub decreases-loop-low : goal.decreases-loop-low
decreases-loop-low l = l.high - l.low
