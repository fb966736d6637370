-- `rounding::tests::new_list_tests` meets its contract. Assumes nothing.
use Rattle.std.proofs.Common.{arith}
use Rattle.rounding.proofs.Looking.{look_end}
use Rattle.rounding.proofs.tests.new_list_tests.Goals as goal

pub returns : goal.returns
returns c = look_end c.args.base c.args.list.now c.loop-i.rules c.loop-i.i c.loop-i.invariant (omega arith)
