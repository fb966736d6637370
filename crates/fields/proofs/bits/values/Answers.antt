-- `fields::bits::values` meets its contract. Assumes nothing.
use Rattle.std.proofs.Common.{◌≡◌, ◌-◌, [], refl, sym, length, get_or, drop, arith, rules}
use Rattle.std.proofs.Math.Nat.{div-one}
use lib.ListN.{length-set, drop_of_length-le}
use Rattle.fields.specs.Packed.{split, total}
use Rattle.fields.proofs.Turns.{one_shl, split_turn}
use Rattle.fields.proofs.bits.values.Goals as goal
use Rattle.fields.proofs.bits.values.Goals.{Start}

-- the array of widths has six
six : (c : Start) → length c.args.widths ≡ 6
six c = search rules

-- all of them are passed
none : (c : Start) → drop 6 c.args.widths ≡ []
none c = drop_of_length-le c.args.widths {i = 6} (omega (arith, six c))

pub loop-k-init : goal.loop-k-init
unfolding total split
loop-k-init c = rw (none (goal.at.loop-k-init c).Start) (sym (div-one c.args.n), refl, refl)

pub loop-k-preserved : goal.loop-k-preserved
loop-k-preserved c =
    let v = c.loop-k in
    let width = get_or c.args.widths (v.k - 1) 0 in
    let turn = split_turn c.args.n c.args.widths v.values v.left (v.k - 1) v.k (omega arith) (omega (arith, six (goal.at.loop-k-preserved c).Start)) (omega arith) v.invariant.0 v.invariant.2 in
    rw (one_shl width (omega (arith, c.requires.each (v.k - 1)))) (turn.0, simp length-set v.invariant.1, turn.1)
