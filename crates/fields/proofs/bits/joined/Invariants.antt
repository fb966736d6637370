-- What the values that are left make behind n is what all of them make. Assumes nothing.
use Rattle.std.proofs.Common.{◌≡◌}
use Rattle.fields.specs.Packed.{join_from, join}
use Rattle.fields.proofs.bits.joined.Given as goal

abbrev pub invariant-loop-w : goal.invariant-loop-w
invariant-loop-w l = join_from l.n l.w-iterator.a.rest.now l.w-iterator.b.rest.now ≡ join l.fn.widths l.fn.values
