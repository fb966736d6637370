-- `accepting::chain::field_test` meets its contract.
-- Assumes nothing.
use mathlib.Core.Path.{◌≡◌}
use Rattle.flows.specs.Flows.{no_flow, keeps}
use Rattle.refusals.specs.declared.Refusal.TheVariants.{Field}
use Rattle.refusals.proofs.Walks.{walk}
use Rattle.lists.specs.Lists.{flows_of}
use Rattle.lists.specs.Tests.{test4}
use Rattle.accepting.proofs.chain.field_test.Given as goal

abbrev pub invariant-loop-i : goal.invariant-loop-i
invariant-loop-i l = walk Field (λ _ f. keeps f) (flows_of l.list) no_flow l.i ≡ test4 (flows_of l.list)
