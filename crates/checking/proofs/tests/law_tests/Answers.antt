-- `checking::tests::law_tests` meets its contract.
-- Assumes nothing.
use Rattle.std.proofs.Common.{ap, arith}
use Rattle.facts.specs.declared.Span.{Span}
use Rattle.lists.proofs.Records.{length-flows}
use Rattle.checking.proofs.tests.law_tests.Goals as goal

pub invariant_of-tests_14_to_18 : goal.invariant_of-tests_14_to_18
invariant_of-tests_14_to_18 c = record {
  sound = record {
    accepted = c.requires;
    indexed = c.fill.ensures (omega (arith, length-flows c.args.list.now, c.requires.few));
    own = ap (λ (s : Span). s.cycle) c.span_of-span.ensures;
  };
}
