-- `fields::bits::all_fit` meets its contract. Assumes nothing.
use Rattle.std.proofs.Common.{◌≡◌, suc, ◌*◌, ◌%◌, ◌^◌, ◌≤◌, length, sym, ap, ◌∙◌, arith}
use mathlib.Core.Logic.{◌⊎◌, inl, inr}
use Rattle.fields.proofs.Turns.{one_shl, fits-step, fits_stop, fits_end}
use Rattle.fields.proofs.bits.all_fit.Goals as goal
use Rattle.fields.proofs.bits.all_fit.Goals.{In-Some}

-- the width that is taken is narrow
narrow : (c : In-Some) → c.in-Some.w.now ≤ 16
narrow c = rw c.in-Some.ensures.steps.0 at (c.loop-w.invariant.narrow 0)

-- the power is the one that is meant
power : (c : In-Some) → 1 * 2 ^ c.in-Some.w.now % 2 ^ 64 ≡ 2 ^ c.in-Some.w.now
power c = one_shl c.in-Some.w.now (omega (arith, narrow c))

pub returns-then-limit-from : goal.returns-then-limit-from
returns-then-limit-from c =
    let steps = c.in-Some.ensures.steps in
    let wide = rw (power (goal.at.returns-then-limit-from c).In-Some, c.from.ensures) at c.if-limit-from.true in
    sym (fits_stop c.in-Some.w.now c.in-Some.v.now c.next.new.self.a.rest.now c.next.new.self.b.rest.now wide)
    ∙ rw (steps.0, steps.1) at c.loop-w.invariant.same

pub loop-w-preserved : goal.loop-w-preserved
loop-w-preserved c =
    let steps = c.in-Some.ensures.steps in
    let less = rw (power (goal.at.loop-w-preserved c).In-Some, c.from.ensures) at c.if-limit-from.false in record {
      narrow = λ k. rw steps.0 at (c.loop-w.invariant.narrow (suc k));
      long = omega (arith, ap length steps.0, ap length steps.1);
      same = sym (fits-step c.in-Some.w.now c.in-Some.v.now c.next.new.self.a.rest.now c.next.new.self.b.rest.now less)
          ∙ rw (steps.0, steps.1) at c.loop-w.invariant.same;
    }

pub returns : goal.returns
returns c =
    let rest = c.loop-w.w-iterator in
    let none : (length rest.a.rest.now ≡ 0) ⊎ (length rest.b.rest.now ≡ 0) = elim c.in-None.ensures.steps [ inl a ↦ inl a.1.0 | inr b ↦ inr b.1.0 ] in
    sym (fits_end rest.a.rest.now rest.b.rest.now c.loop-w.invariant.long none) ∙ c.loop-w.invariant.same
