-- `pairing::intervals::interval_test` meets its contract.
-- Assumes nothing.
use Rattle.flows.specs.Flows.{no_flow}
use Rattle.refusals.specs.declared.Refusal.TheVariants.{Unrelated}
use Rattle.refusals.proofs.Walks.{before}
use Rattle.lists.specs.Lists.{flows_of}
use Rattle.lists.specs.Tests.{related_interval}
use Rattle.pairing.specs.Parts.{Chain}
use Rattle.pairing.proofs.Verdicts.{Settled}
use Rattle.pairing.proofs.Keeping.{Holds}
use Rattle.pairing.proofs.intervals.interval_test.Given as goal

abbrev pub invariant-loop-i : goal.invariant-loop-i
invariant-loop-i l = record {
  chain : Chain l.kept;
  holds : Holds l.kept (before (flows_of l.list) no_flow l.i);
  settled : Settled Unrelated related_interval (flows_of l.list) l.i;
}
