-- A list written: its head and its records, each at its place. Assumes nothing.
use mathlib.Core.Path.{◌≡◌, refl, sym, ap, ap₂, ◌∙◌}
use mathlib.Core.List.{List, [], ◌∷◌, ◌++◌, append_assoc}
use Prim.Native.Nat.{ℕ, ◌+◌, ◌≤◌, ◌<◌}
use native.Mathlib.Omega.{arith}
use lib.Dec.{lit<}
use lib.ListN.{length, take, drop, length-drop}
use lib.Seq.{sets, drop-drop}
use Rattle.logic.proofs.Rooms.{sets_append, sets_front, sets_between}
use Rattle.fields.specs.declared.kind.Kind.TheVariants.{ListHead, ListRecord}
use Rattle.flows.specs.declared.flow.Flow.{Flow}
use Rattle.fields.specs.Kinds.{widths}
use Rattle.fields.specs.Records.{room_after}
use Rattle.flows.specs.Flows.{fields_of, packed_flow}
use Rattle.fields.proofs.Packed.{fit_fits}
use Rattle.fields.proofs.Records.{ends_done}
use Rattle.flows.proofs.Flows.{Keeps, keeps_fit, length-packed_flow}
use Rattle.lists.specs.Lists.{head_fields, head, place, records, list_of, record_after}
use Rattle.lists.proofs.RoundTrip.{length-head}

-- the head, where its count fits 16 bits
pub head-written : (n : ℕ) (room : List ℕ) → n < 65536 → 4 ≤ length room → room_after ListHead (head_fields n) room ≡ sets room 0 (head n)
unfolding head
head-written n room small h =
    sym (ends_done ListHead (head_fields n) room (fit_fits (widths ListHead) (head_fields n) (lit< tt, (lit< tt, (lit< tt, (small, (lit< tt, (lit< tt, tt))))))) h).1
    ∙ sets_between (head n) room 0 4 (length-head n) h

-- the record of a flow that keeps its rule
pub record_written : (f : Flow) (i : ℕ) (room : List ℕ) → Keeps f → place i + 6 ≤ length room → record_after f i room ≡ sets room (place i) (packed_flow f)
unfolding record_after packed_flow
record_written f i room k h =
    let part : List ℕ = drop (place i) room in
    ap (λ (x : List ℕ). take (place i) room ++ x)
    (sym (ends_done ListRecord (fields_of f) part (fit_fits (widths ListRecord) (fields_of f) (keeps_fit f k)) (omega (arith, length-drop (place i) room))).1
    ∙ ap (λ (x : List ℕ). packed_flow f ++ x) (drop-drop 6 (place i) room))
    ∙ sets_between (packed_flow f) room (place i) 6 (length-packed_flow f) h

-- ---- the records and the list

pub records-none : records [] ≡ []
unfolding records
records-none = refl

pub records_is : (f : Flow) (fs : List Flow) → records (f ∷ fs) ≡ packed_flow f ++ records fs
unfolding records
records_is f fs = refl

-- a record written, and others still to be written behind it
pub record_next : (f : Flow) (fs : List Flow) (i : ℕ) (room : List ℕ) → Keeps f → place i + 6 ≤ length room
    → sets (record_after f i room) (place (i + 1)) (records fs) ≡ sets room (place i) (records (f ∷ fs))
record_next f fs i room k h =
    let behind : place (i + 1) ≡ place i + length (packed_flow f) = omega (arith, length-packed_flow f) in
    ap₂ (λ (r : List ℕ) (p : ℕ). sets r p (records fs)) (record_written f i room k h) behind
    ∙ sym (sets_append room (place i) (packed_flow f) (records fs))
    ∙ ap (sets room (place i)) (sym (records_is f fs))

pub records_both : (fs gs : List Flow) → records (fs ++ gs) ≡ records fs ++ records gs
unfolding records
records_both [] gs = refl
records_both (f ∷ fs) gs = ap (λ (r : List ℕ). packed_flow f ++ r) (records_both fs gs) ∙ sym (append_assoc (packed_flow f) (records fs) (records gs))

-- the head, and the records behind it
pub list_written : (fs : List Flow) (room : List ℕ) → length (list_of fs) ≤ length room
    → sets (sets room 0 (head (length fs))) 4 (records fs) ≡ list_of fs ++ drop (length (list_of fs)) room
unfolding list_of
list_written fs room h =
    let four : 4 ≡ 0 + length (head (length fs)) = omega (arith, length-head (length fs)) in
    ap (λ (k : ℕ). sets (sets room 0 (head (length fs))) k (records fs)) four
    ∙ sym (sets_append room 0 (head (length fs)) (records fs))
    ∙ sets_front (list_of fs) room h
