-- `marks::mark_run` meets its contract.
-- Assumes nothing.
use Rattle.std.proofs.Common.{◌%◌}
use native.Mathlib.Omega.{arith}
use native.Mathlib.Nat.{mod-lt}
use lib.Dec.{lit<}
use Rattle.marks.proofs.Bits.{ones_byte}
use Rattle.marks.proofs.Marking.{marks_run}
use Rattle.marks.proofs.mark_run.Goals as goal

pub overflow_cast-bits : goal.overflow_cast-bits
overflow_cast-bits c =
    let x = c.args.x in
    record { fits = ones_byte (x % 8) c.min-run.result (mod-lt x (lit< tt)) (omega arith) }

pub returns-then-k-bits : goal.returns-then-k-bits
returns-then-k-bits c =
    let a = c.args in
    (c.min-run.ensures, marks_run a.bits.now a.x c.min-run.result (omega arith) (omega arith))
