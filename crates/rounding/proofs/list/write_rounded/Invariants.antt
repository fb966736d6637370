-- `rounding::list::write_rounded` meets its contract. Assumes nothing.
use Rattle.rounding.proofs.Writing.{WriteAt}
use Rattle.rounding.proofs.list.write_rounded.Given as goal

abbrev pub invariant-loop-i : goal.invariant-loop-i
invariant-loop-i l = WriteAt l.base l.list l.initial.room l.i l.room
