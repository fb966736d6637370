-- `checking::tests::check_and_index` meets its contract.
-- Assumes nothing.
use Rattle.std.proofs.Common.{sym, ◌∙◌}
use Rattle.lists.proofs.Accepted.{accepted}
use Rattle.checking.proofs.tests.check_and_index.Goals as goal

pub law_tests-requires : goal.law_tests-requires
law_tests-requires c = accepted c.args.list.now (sym c.tests_1_to_7.ensures ∙ c.in_ok-tests_1_to_7.was)
