-- `converting::slots::write_copies` meets its contract.
-- Assumes nothing.
use Rattle.converting.proofs.Copying.{CopyAt}
use Rattle.converting.proofs.slots.write_copies.Given as goal

abbrev pub invariant-loop-i : goal.invariant-loop-i
invariant-loop-i l = CopyAt l.f l.n l.k l.initial.list l.i l.list
