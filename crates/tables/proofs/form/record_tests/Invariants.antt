-- `tables::form::record_tests` meets its contract.
-- Assumes nothing.
use Rattle.std.proofs.Common.{◌≡◌}
use Rattle.tables.specs.Parts.{record_tests}
use Rattle.tables.proofs.Walk.{records_from}
use Rattle.tables.proofs.form.record_tests.Given as goal

abbrev pub invariant-loop-bytes : goal.invariant-loop-bytes
invariant-loop-bytes l = records_from l.next l.table l.bytes-index l.n ≡ record_tests l.table l.n
