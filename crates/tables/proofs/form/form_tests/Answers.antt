-- `tables::form::form_tests` meets its contract.
-- Assumes nothing.
use Rattle.std.proofs.Common.{◌∙◌, sym}
use Rattle.refusals.specs.declared.Refusal.TheVariants.{TableForm}
use Rattle.refusals.proofs.Chains.{unless_passed}
use Rattle.tables.proofs.Forms.{whole_is}
use Rattle.tables.proofs.form.form_tests.Goals as goal

pub record_tests-requires : goal.record_tests-requires
record_tests-requires c = rw c.count.ensures (whole_is c.args.table.now (sym c.whole.ensures ∙ unless_passed _ TableForm (sym c.in_ok-unless.ensures))).exact
