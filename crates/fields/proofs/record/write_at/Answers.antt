-- `fields::record::write_at` meets its contract.
-- Assumes nothing.
use native.Mathlib.Omega.{arith}
use Rattle.std.proofs.Common.{ℕ, ◌-◌, ◌++◌, take, drop, ap, ◌∙◌}
use Rattle.fields.specs.Kinds.{place}
use Rattle.fields.specs.Records.{room_after}
use Rattle.fields.proofs.Places.{ends_beyond, ends_part}
use Rattle.fields.proofs.record.write_at.Goals as goal

pub returns-in-Some : goal.returns-in-Some
returns-in-Some c =
    let a = c.args in
    let at = c.in-Some.ensures in
    let ends = ends_part a.kind c.in-Some.place.start a.values a.room.now (omega (arith, at)) _ (omega (arith, at)) _ _ c.write.ensures.value c.write.ensures.room_after in
    record { value = rw at.0 at ends.0; room_after = ends.1 ∙ ap (λ (p : ℕ). take p a.room.now ++ room_after a.kind a.values (drop p a.room.now)) at.0 }

pub returns-in_default : goal.returns-in_default
returns-in_default c =
    let a = c.args in
    let at = c.in-Some.ensures in
    let ends = ends_beyond a.kind (place a.kind a.i) a.values a.room.now (omega (arith, at)) in record { value = ends.0; room_after = ends.1 }

pub returns-in_default-2 : goal.returns-in_default-2
returns-in_default-2 c =
    let a = c.args in
    let beyond = rw c.in_default.is at c.place.ensures in
    let ends = ends_beyond a.kind (place a.kind a.i) a.values a.room.now (omega (arith, beyond)) in record { value = ends.0; room_after = ends.1 }
