-- `pairing::numbers::number_test` meets its contract.
-- Assumes nothing.
use Rattle.flows.specs.Flows.{no_flow}
use Rattle.refusals.specs.declared.Refusal.TheVariants.{UsedNumber}
use Rattle.refusals.proofs.Walks.{before}
use Rattle.lists.specs.Lists.{flows_of}
use Rattle.lists.specs.Tests.{new_number}
use Rattle.pairing.proofs.Verdicts.{Settled}
use Rattle.pairing.proofs.Noting.{Noted}
use Rattle.pairing.proofs.numbers.number_test.Given as goal

abbrev pub invariant-loop-i : goal.invariant-loop-i
invariant-loop-i l = record {
  noted : Noted l.bits (before (flows_of l.list) no_flow l.i);
  settled : Settled UsedNumber new_number (flows_of l.list) l.i;
}
