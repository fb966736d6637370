-- The values behind k are split off, and what is left stands before them. Assumes nothing.
use Rattle.std.proofs.Common.{◌≡◌, ◌/◌, ◌^◌, length, drop}
use Rattle.fields.specs.Packed.{total, split}
use Rattle.fields.proofs.bits.values.Given as goal

abbrev pub invariant-loop-k : goal.invariant-loop-k
invariant-loop-k l = (l.left ≡ l.n / 2 ^ total (drop l.k l.widths)) × (length l.values ≡ 6) × (drop l.k l.values ≡ split (drop l.k l.widths) l.n)
