-- `tables::form::first_fault` meets its contract.
-- Assumes nothing.
use Rattle.std.proofs.Common.{◌≡◌}
use Rattle.tables.specs.Parts.{record_tests}
use Rattle.tables.proofs.Walk.{records_from}
use Rattle.tables.proofs.form.first_fault.Given as goal

abbrev pub invariant-loop-i : goal.invariant-loop-i
invariant-loop-i l = records_from l.least l.table l.i l.n ≡ record_tests l.table l.n
