-- `fields::bits::joined` meets its contract. Assumes nothing.
use Rattle.std.proofs.Common.{◌≡◌, ◌*◌, ◌%◌, ◌^◌, length, sym, ◌∙◌, arith}
use Rattle.std.proofs.Math.Nat.{mod-eq_of_lt}
use mathlib.Core.Logic.{◌⊎◌, inl, inr}
use Rattle.fields.specs.Packed.{join}
use Rattle.fields.proofs.Turns.{JoinTurn, join_turn, join_end}
use Rattle.fields.proofs.bits.joined.Goals as goal
use Rattle.fields.proofs.bits.joined.Goals.{In-Some}

pub loop-w-init : goal.loop-w-init
unfolding join
loop-w-init c = cc

-- after the value is joined
turn : (c : In-Some) → JoinTurn c.loop-w.n c.in-Some.w.now c.in-Some.v.now c.next.new.self.a.rest.now c.next.new.self.b.rest.now (join c.args.widths c.args.values)
turn c =
    let steps = c.in-Some.ensures.steps in
    join_turn c.args.widths c.args.values c.loop-w.n c.in-Some.w.now c.in-Some.v.now c.next.new.self.a.rest.now c.next.new.self.b.rest.now
    c.requires.fit c.requires.narrow.whole (rw (steps.0, steps.1) at c.loop-w.invariant)

-- nothing is shifted out
whole : (c : In-Some) → c.loop-w.n * 2 ^ c.in-Some.w.now % 2 ^ 64 ≡ c.loop-w.n * 2 ^ c.in-Some.w.now
whole c = mod-eq_of_lt (omega (arith, (turn c).0))

pub overflow_add-n : goal.overflow_add-n
overflow_add-n c = rw (whole (goal.at.overflow_add-n c).In-Some, c.from.ensures) (record { fits = (turn (goal.at.overflow_add-n c).In-Some).0 })

pub loop-w-preserved : goal.loop-w-preserved
loop-w-preserved c = rw (whole (goal.at.loop-w-preserved c).In-Some, c.from.ensures) (turn (goal.at.loop-w-preserved c).In-Some).1

pub returns : goal.returns
returns c =
    let rest = c.loop-w.w-iterator in
    let none : (length rest.a.rest.now ≡ 0) ⊎ (length rest.b.rest.now ≡ 0) = elim c.in-None.ensures.steps [ inl a ↦ inl a.1.0 | inr b ↦ inr b.1.0 ] in
    sym (join_end c.loop-w.n rest.a.rest.now rest.b.rest.now none) ∙ c.loop-w.invariant
