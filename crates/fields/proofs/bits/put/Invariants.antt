-- The bytes behind k are put, and what is left stands before them. Assumes nothing.
use Rattle.std.proofs.Common.{◌≡◌, ◌/◌, ◌^◌, length, drop}
use Rattle.fields.specs.Packed.{total, split, eights}
use Rattle.fields.proofs.bits.put.Given as goal

abbrev pub invariant-loop-k : goal.invariant-loop-k
invariant-loop-k l =
    (l.left ≡ l.n / 2 ^ total (drop l.k (eights (length l.fn.out)))) × (drop l.k l.out ≡ split (drop l.k (eights (length l.fn.out))) l.n)
