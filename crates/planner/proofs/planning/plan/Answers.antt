-- `planner::planning::plan` meets its contract. Assumes nothing.
use Rattle.std.proofs.Common.{sym, ◌∙◌}
use Rattle.lists.proofs.Accepted.{accepted}
use Rattle.planner.proofs.planning.plan.Goals as goal

pub place_and_write-requires-clause-accepted : goal.place_and_write-requires-clause-accepted
place_and_write-requires-clause-accepted c = accepted c.args.list.now (sym c.tests_1_to_7.ensures ∙ c.in_ok-tests_1_to_7.was)
