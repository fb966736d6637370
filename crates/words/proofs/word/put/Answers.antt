-- `words::word::put` meets its contract.
-- Assumes nothing.
use Rattle.std.proofs.Common.{◌≤◌, ◌+◌, length, refl, sym, ◌∙◌, arith}
use lib.ListN.{length-set}
use Rattle.logic.proofs.Rooms.{sets_next, sets_done}
use Rattle.words.proofs.Places.{within-le, put_short, put_done}
use Rattle.words.proofs.word.put.Goals as goal
use Rattle.words.proofs.word.put.Goals.{Else-not-fits}

-- the word fits
whole : (c : Else-not-fits) → c.args.at + length c.args.w.now ≤ length c.args.room.now
whole c = within-le c.args.at _ _ (sym c.fits.ensures ∙ c.if-not-fits.false)

pub returns-then-not-fits : goal.returns-then-not-fits
returns-then-not-fits c = let whole = put_short c.args.at c.args.w.now c.args.room.now _ refl (sym c.fits.ensures ∙ c.if-not-fits.true) in record { value = whole.0; room_after = whole.1 }

pub bounds-room-end : goal.bounds-room-end
bounds-room-end c = let h = whole (goal.at.bounds-room-end c).Else-not-fits in omega (arith, h, c.loop-byte.invariant.place, c.loop-byte.invariant.long)

pub overflow_add-end : goal.overflow_add-end
overflow_add-end c = let h = whole (goal.at.overflow_add-end c).Else-not-fits in omega (arith, h, c.loop-byte.invariant.place)

pub loop-byte-preserved : goal.loop-byte-preserved
loop-byte-preserved c =
    let a = c.args in
    let v = c.loop-byte in
    record {
      place = omega (arith, v.invariant.place);
      long = simp length-set v.invariant.long;
      put = rw v.invariant.place (sym (sets_next v.room a.w.now a.at v.byte-index (omega arith)) ∙ v.invariant.put);
    }

pub returns : goal.returns
returns c =
    let a = c.args in
    let v = c.loop-byte in
    let e = sym (sets_done v.room a.w.now (a.at + v.byte-index) v.byte-index (omega arith)) ∙ v.invariant.put in
    let all = put_done a.at a.w.now a.room.now _ refl _ (sym c.fits.ensures ∙ c.if-not-fits.false) e in
    record { value = omega (arith, v.invariant.place, all.0); room_after = all.1 }
