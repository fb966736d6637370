-- `rounding::tests::new_list_tests` meets its contract. Assumes nothing.
use Rattle.lists.specs.Lists.{flows_of}
use Rattle.rounding.proofs.Looking.{LookAt}
use Rattle.rounding.proofs.tests.new_list_tests.Given as goal

abbrev pub invariant-loop-i : goal.invariant-loop-i
invariant-loop-i l = LookAt l.base (flows_of l.list) l.rules l.i
