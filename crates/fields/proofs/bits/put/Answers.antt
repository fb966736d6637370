-- `fields::bits::put` meets its contract. Assumes nothing.
use Rattle.std.proofs.Common.{◌≡◌, ◌-◌, refl, sym, length, arith}
use Rattle.std.proofs.Math.Nat.{div-one}
use lib.Seq.{drop-length}
use Rattle.fields.specs.Packed.{split, total}
use Rattle.fields.proofs.Turns.{split_byte}
use Rattle.fields.proofs.Packed.{none-eights}
use Rattle.fields.proofs.bits.put.Goals as goal

pub loop-k-init : goal.loop-k-init
unfolding total split
loop-k-init c = rw (none-eights (length c.args.out.now), drop-length) (sym (div-one c.args.n), refl)

pub loop-k-preserved : goal.loop-k-preserved
loop-k-preserved c =
    let v = c.loop-k in
    split_byte c.args.n (length c.args.out.now) v.out v.left (v.k - 1) v.k (omega arith) (omega arith) (omega arith) v.invariant.0 v.invariant.1

pub returns : goal.returns
returns c =
    let z : c.loop-k.k ≡ 0 = omega arith in
    rw z at c.loop-k.invariant.1
