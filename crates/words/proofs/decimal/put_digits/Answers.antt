-- `words::decimal::put_digits` meets its contract.
-- Assumes nothing.
use Rattle.std.proofs.Common.{◌≡◌, ◌+◌, ◌≤◌, ◌-◌, length, sym, ◌∙◌, arith}
use lib.ListN.{length-set}
use Rattle.words.specs.Decimals.{digits}
use Rattle.words.proofs.Decimals.{length_digits, digits_turn}
use Rattle.words.proofs.Places.{within-le, put_short, put_done}
use Rattle.words.proofs.decimal.put_digits.Goals as goal
use Rattle.words.proofs.decimal.put_digits.Goals.{Else-not-fits}

-- the digits fit
whole : (c : Else-not-fits) → c.args.at + c.args.k ≤ length c.args.room.now
whole c = within-le c.args.at _ _ (sym c.fits.ensures ∙ c.if-not-fits.false)

pub returns-then-not-fits : goal.returns-then-not-fits
returns-then-not-fits c =
    let short = put_short c.args.at _ c.args.room.now _ (sym (length_digits c.args.k c.args.v)) (sym c.fits.ensures ∙ c.if-not-fits.true) in
    record { value = short.0; room_after = short.1 }

pub overflow_add-room-in-loop-j : goal.overflow_add-room-in-loop-j
overflow_add-room-in-loop-j c = let h = whole (goal.at.overflow_add-room-in-loop-j c).Else-not-fits in omega arith

pub bounds-room-at : goal.bounds-room-at
bounds-room-at c = let h = whole (goal.at.bounds-room-at c).Else-not-fits in omega (arith, c.loop-j.invariant.0)

pub overflow_add-result : goal.overflow_add-result
overflow_add-result c = let h = whole (goal.at.overflow_add-result c).Else-not-fits in omega arith

pub loop-j-preserved : goal.loop-j-preserved
loop-j-preserved c =
    let a = c.args in (
      simp length-set c.loop-j.invariant.0,
      sym (digits_turn c.loop-j.room a.at c.loop-j.left c.loop-j.j (c.loop-j.j - 1) (omega arith)) ∙ c.loop-j.invariant.1,
    )

pub returns : goal.returns
unfolding digits
returns c =
    let z : c.loop-j.j ≡ 0 = omega arith in
    let written = rw z at c.loop-j.invariant.1 in
    let done = put_done c.args.at _ c.args.room.now _ (sym (length_digits c.args.k c.args.v)) _ (sym c.fits.ensures ∙ c.if-not-fits.false) written in
    record { value = done.0; room_after = done.1 }
