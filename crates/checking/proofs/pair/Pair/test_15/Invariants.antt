-- `checking::pair::Pair::test_15` meets its contract.
-- Assumes nothing.
use Rattle.std.proofs.Common.{◌≡◌}
use Rattle.flows.specs.Flows.{no_flow}
use Rattle.refusals.specs.declared.Refusal.TheVariants.{GrantCount}
use Rattle.refusals.proofs.Walks.{walk}
use Rattle.law.specs.Check.{counted, test15}
use Rattle.checking.specs.Parts.{flows_in, grants_in}
use Rattle.checking.proofs.pair.Pair.test_15.Given as goal

abbrev pub invariant-loop-i : goal.invariant-loop-i
invariant-loop-i l = (walk GrantCount (λ _ f. counted (flows_in l.self) (grants_in l.self) f) (flows_in l.self) no_flow l.i ≡ test15 (flows_in l.self) (grants_in l.self))
