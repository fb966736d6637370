-- `fields::bits::number` meets its contract. Assumes nothing.
use Rattle.std.proofs.Common.{◌+◌, refl, sym, ◌∙◌, length, get_or, drop, length-drop, arith}
use Rattle.fields.specs.Packed.{join, eights}
use Rattle.fields.proofs.Turns.{JoinTurn, byte_turn, join_end}
use mathlib.Core.Logic.{inr}
use Rattle.fields.proofs.bits.number.Goals as goal
use Rattle.fields.proofs.bits.number.Goals.{In-loop-b}

pub loop-b-init : goal.loop-b-init
unfolding join
loop-b-init c = refl

-- after the byte is read
turn : (c : In-loop-b)
    → let s = c.args.s.now in let i = c.loop-b.b-index in
    JoinTurn c.loop-b.n 8 (get_or s i 0) (drop (i + 1) (eights (length s))) (drop (i + 1) s) (join (eights (length s)) s)
turn c = byte_turn c.args.s.now c.loop-b.n c.loop-b.b-index (λ j. (c.type_inv.s j).fits) (omega arith) (omega arith) c.loop-b.invariant

pub overflow_mul-n : goal.overflow_mul-n
overflow_mul-n c = omega (arith, (turn (goal.at.overflow_mul-n c).In-loop-b).0)

pub overflow_add-n : goal.overflow_add-n
overflow_add-n c = omega (arith, (turn (goal.at.overflow_add-n c).In-loop-b).0)

pub loop-b-preserved : goal.loop-b-preserved
loop-b-preserved c = rw c.from.ensures (turn (goal.at.loop-b-preserved c).In-loop-b).1

pub returns : goal.returns
returns c =
    let s = c.args.s.now in
    let i = c.loop-b.b-index in
    sym (join_end c.loop-b.n (drop i (eights (length s))) (drop i s) (inr (simp length-drop (omega arith)))) ∙ c.loop-b.invariant
