-- A record of a list, read and written at its place. Assumes nothing.
use mathlib.Core.Path.{◌≡◌, refl, sym, ap}
use mathlib.Core.List.{List, ◌++◌}
use Prim.Native.Nat.{ℕ, ◌+◌, ◌-◌, ◌≤◌, ◌<◌}
use native.Mathlib.Omega.{arith}
use lib.ListN.{length, get_or, take, drop, length-drop}
use Rattle.std.proofs.Common.{Result, Err}
use Rattle.logic.proofs.Parts.{part_to_end}
use Rattle.logic.proofs.Indices.{length_from, entry_is}
use Rattle.fields.specs.declared.kind.Kind.TheVariants.{ListRecord}
use Rattle.fields.specs.declared.record.Misfit.{Misfit}
use Rattle.fields.specs.declared.record.Misfit.TheVariants.{Short}
use Rattle.fields.specs.Records.{stored, room_after}
use Rattle.fields.proofs.Places.{ends_beyond, ends_part}
use Rattle.flows.specs.declared.flow.Flow.{Flow}
use Rattle.flows.specs.Flows.{no_flow, flow_of, fields_of}
use Rattle.flows.proofs.Flows.{flow_short}
use Rattle.lists.specs.Lists.{place, count, flow_at, flows_from, flows_of, record_stored, record_after}

-- ---- reading

-- a record that is not there is no flow
pub flow_beyond : (l : List ℕ) (i : ℕ) → length l < place i + 6 → no_flow ≡ flow_at l i
unfolding flow_at
flow_beyond l i h = sym (flow_short (drop (place i) l) (simp length-drop (omega arith)))

pub flow_part : (l : List ℕ) (i : ℕ) → flow_of (take (length l - place i) (drop (place i) l)) ≡ flow_at l i
unfolding flow_at
flow_part l i = ap flow_of (part_to_end (place i) l)

-- ---- the flows of a list

-- n records, from the first on: what the code reads at record i is flow i
module _ (l : List ℕ) (n : ℕ) where
  pub length-first : length (flows_from l 0 n) ≡ n
  unfolding flows_from
  length-first = length_from (flow_at l) (flows_from l) (λ i. refl) (λ i n. refl) 0 n

  pub first_is : (i : ℕ) (f : Flow) → i < n → f ≡ flow_at l i → f ≡ get_or (flows_from l 0 n) i no_flow
  unfolding flows_from
  first_is = entry_is (flow_at l) (flows_from l) (λ i. refl) (λ i n. refl) no_flow n

-- as many as the head says
pub length-flows : (l : List ℕ) → length (flows_of l) ≡ count l
unfolding flows_of
length-flows l = length-first l (count l)

pub flow_is : (l : List ℕ) (i : ℕ) (f : Flow) → i < count l → f ≡ flow_at l i → f ≡ get_or (flows_of l) i no_flow
unfolding flows_of
flow_is l = first_is l (count l)

-- ---- writing

module _ (f : Flow) (i : ℕ) (room : List ℕ) where
  pub record_beyond : length room < place i + 6 → (Err Short ≡ record_stored f i (length room)) × (room ≡ record_after f i room)
  unfolding record_stored record_after
  record_beyond h = ends_beyond ListRecord (place i) (fields_of f) room (omega arith)

  pub record_part : place i + 6 ≤ length room → (n : ℕ) → n ≡ 6 → (a : Result Unit Misfit) (ys : List ℕ) → let part = take n (drop (place i) room) in
      a ≡ stored ListRecord (fields_of f) (length part) → ys ≡ room_after ListRecord (fields_of f) part
      → (a ≡ record_stored f i (length room)) × (take (place i) room ++ (ys ++ drop n (drop (place i) room)) ≡ record_after f i room)
  unfolding record_stored record_after
  record_part = ends_part ListRecord (place i) (fields_of f) room
