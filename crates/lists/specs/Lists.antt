-- Document 01's "Packed forms": what the bytes of a list mean. Assumes nothing.
use Rattle.std.specs.Prelude.{ℕ, zero, suc, ◌+◌, ◌-◌, ◌*◌, List, [], ◌∷◌, ◌++◌, length, get_or, take, drop, Result}
use Rattle.fields.specs.declared.kind.Kind.TheVariants.{ListHead, ListRecord}
use Rattle.flows.specs.declared.flow.Flow.{Flow}
use Rattle.fields.specs.declared.record.Misfit.{Misfit}
use Rattle.fields.specs.Records.{packed, values_of, stored, room_after}
use Rattle.flows.specs.Flows.{fields_of, flow_of, packed_flow}

-- the fields of the head of a list of n records: edition 1, kind 1, spare bits, count
abbrev pub head_fields : ℕ → List ℕ
head_fields n = 1 ∷ 1 ∷ 0 ∷ n ∷ 0 ∷ 0 ∷ []

-- the bytes of that head
unfoldable pub head : ℕ → List ℕ
head n = packed ListHead (head_fields n)

-- the fields of the head that a list has
unfoldable pub head_of : List ℕ → List ℕ
head_of l = values_of ListHead l

-- the count of records that the head says
unfoldable pub count : List ℕ → ℕ
count l = get_or (head_of l) 3 0

-- where record i stands, counted from 0: behind the head's 4 bytes and 6 bytes for each record before it
abbrev pub place : ℕ → ℕ
place i = 4 + 6 * i

-- the flow of record i; zeros where the list has no such record
unfoldable pub flow_at : List ℕ → ℕ → Flow
flow_at l i = flow_of (drop (place i) l)

-- the flows of n records from record i on
unfoldable pub flows_from : List ℕ → ℕ → ℕ → List Flow
flows_from l i zero = []
flows_from l i (suc n) = flow_at l i ∷ flows_from l (suc i) n

-- the flows of a list
unfoldable pub flows_of : List ℕ → List Flow
flows_of l = flows_from l 0 (count l)

-- the records of flows, one behind the other
unfoldable pub records : List Flow → List ℕ
records [] = []
records (f ∷ fs) = packed_flow f ++ records fs

-- the list of flows
unfoldable pub list_of : List Flow → List ℕ
list_of fs = head (length fs) ++ records fs

-- what writing a flow as record i comes to in a room of n bytes
unfoldable pub record_stored : Flow → ℕ → ℕ → Result Unit Misfit
record_stored f i n = stored ListRecord (fields_of f) (n - place i)

-- the room afterwards
unfoldable pub record_after : Flow → ℕ → List ℕ → List ℕ
record_after f i room = take (place i) room ++ room_after ListRecord (fields_of f) (drop (place i) room)
