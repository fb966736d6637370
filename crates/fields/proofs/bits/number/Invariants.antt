-- What the bytes that are left make behind n is what all of them make. Assumes nothing.
use Rattle.std.proofs.Common.{◌≡◌, length, drop}
use Rattle.fields.specs.Packed.{join_from, join, eights}
use Rattle.fields.proofs.bits.number.Given as goal

abbrev pub invariant-loop-b : goal.invariant-loop-b
invariant-loop-b l = join_from l.n (drop l.b-index (eights (length l.s))) (drop l.b-index l.s) ≡ join (eights (length l.s)) l.s
