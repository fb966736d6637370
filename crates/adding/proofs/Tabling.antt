-- The new table, written behind its head. Assumes nothing.
use Rattle.std.proofs.Common.{◌≡◌, sym, ap, ◌∙◌, List, ◌++◌, ℕ, ◌+◌, ◌/◌, ◌≤◌, ◌<◌, arith, length, drop}
use Rattle.fields.specs.declared.kind.Kind.TheVariants.{TableHead}
use Rattle.fields.specs.Records.{room_after}
use Rattle.flows.specs.declared.flow.Flow.{Flow}
use Rattle.lists.specs.Facts.{grants_of}
use Rattle.tables.specs.Tables.{count, cycle_of, frame_of, head_fields, place, grants_of as grants_in, table_of, records_after}
use Rattle.tables.proofs.Records.{length-grants}
use Rattle.tables.proofs.Meaning.{Holds, length-table}
use Rattle.tables.proofs.Writing.{table-written}
use Rattle.offsets.specs.Offsets.{new_grants, joined}
use Rattle.offsets.specs.Adding.{new_table_grants, new_table}
use Rattle.offsets.proofs.Joining.{length-new_grants}
use Rattle.offsets.proofs.Standing.{new_held}
use Rattle.adding.specs.Parts.{Joins, grants_after}
use Rattle.adding.proofs.Known.{known}

module _ (l t : List ℕ) (f : Flow) (o : ℕ) (J : Joins l t f) where
  -- the grants of the new table, by the table's own cycle
  grants_same : new_table_grants l t f o ≡ grants_after t f o
  unfolding new_table_grants
  grants_same = ap (λ (c : ℕ). joined (new_grants c f o) (grants_in t)) (sym (known l t f J).cycle_is)

  -- the new table, by the table's own cycle and frame
  pub table_same : table_of (cycle_of t) (frame_of t) (grants_after t f o) ≡ new_table l t f o
  unfolding new_table
  table_same = let k = known l t f J in rw (grants_same, k.cycle_is, k.frame_is)

  -- how many they are
  pub grants-many : length (grants_after t f o) ≡ count t + cycle_of t / f.interval
  unfolding grants_of
  grants-many = ap length (sym grants_same) ∙ length-new_grants l t f o ∙ rw (length-grants t, (known l t f J).cycle_is)

  module _ (early : o < f.interval) where
    -- a packed table can hold them
    pub held_after : Holds (cycle_of t) (frame_of t) (grants_after t f o)
    unfolding new_table_grants
    held_after = let k = known l t f J in rw (k.cycle_is, k.frame_is) (new_held l t f J.checked J.new o early)

    -- the head and the records are the table
    pub table_added_lem : (n : ℕ) (room headed out : List ℕ) → n ≡ count t + cycle_of t / f.interval → place n ≤ length room
        → headed ≡ room_after TableHead (head_fields n (cycle_of t) (frame_of t)) room → out ≡ records_after 0 (grants_after t f o) headed
        → out ≡ table_of (cycle_of t) (frame_of t) (grants_after t f o) ++ drop (place n) room
    table_added_lem n room headed out e h a b =
        let H = held_after in
        let gs = grants_after t f o in
        let m : n ≡ length gs = e ∙ sym grants-many in
        let size : length (table_of (cycle_of t) (frame_of t) gs) ≡ place n = length-table (cycle_of t) (frame_of t) gs ∙ ap place (sym m) in
        b ∙ ap (records_after 0 gs) (a ∙ ap (λ (k : ℕ). room_after TableHead (head_fields k (cycle_of t) (frame_of t)) room) m)
        ∙ table-written (cycle_of t) (frame_of t) gs room H.fits (omega (arith, H.few)) H.cycle_lt H.frame_lt (omega (arith, m))
        ∙ ap (λ (k : ℕ). table_of (cycle_of t) (frame_of t) gs ++ drop k room) size
