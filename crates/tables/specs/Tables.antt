-- Document 01's "Packed forms": what the bytes of a table mean. Assumes nothing.
use Rattle.std.specs.Prelude.{ℕ, zero, suc, ◌+◌, ◌-◌, ◌*◌, List, [], ◌∷◌, ◌++◌, length, get_or, take, drop, Result}
use Rattle.fields.specs.declared.kind.Kind.TheVariants.{TableHead, TableRecord}
use Rattle.fields.specs.declared.record.Misfit.{Misfit}
use Rattle.fields.specs.Records.{packed, values_of, stored, room_after}
use Rattle.tables.specs.declared.packed.Grant.{Grant}

-- the fields of the head of a table of n records: edition 1, kind 2, spare bits, count, cycle, frame
abbrev pub head_fields : ℕ → ℕ → ℕ → List ℕ
head_fields n c φ = 1 ∷ 2 ∷ 0 ∷ n ∷ c ∷ φ ∷ []

-- the bytes of that head
unfoldable pub head : ℕ → ℕ → ℕ → List ℕ
head n c φ = packed TableHead (head_fields n c φ)

-- the fields of the head that a table has
unfoldable pub head_of : List ℕ → List ℕ
head_of t = values_of TableHead t

-- the count of records that the head says
unfoldable pub count : List ℕ → ℕ
count t = get_or (head_of t) 3 0

-- the table's own cycle
unfoldable pub cycle_of : List ℕ → ℕ
cycle_of t = get_or (head_of t) 4 0

-- the table's own frame
unfoldable pub frame_of : List ℕ → ℕ
frame_of t = get_or (head_of t) 5 0

-- where record i stands, counted from 0: behind the head's 8 bytes and 5 bytes for each record before it
abbrev pub place : ℕ → ℕ
place i = 8 + 5 * i

-- the values of record i; zeros where the table has no such record
unfoldable pub values_at : List ℕ → ℕ → List ℕ
values_at t i = values_of TableRecord (drop (place i) t)

-- the grant with these values
abbrev pub grant_with : List ℕ → Grant
grant_with vs = record { flow = get_or vs 0 0; start = get_or vs 1 0; late = get_or vs 2 0 }

-- the grant of record i
unfoldable pub grant_at : List ℕ → ℕ → Grant
grant_at t i = grant_with (values_at t i)

-- the spare bits of record i
unfoldable pub spare_at : List ℕ → ℕ → ℕ
spare_at t i = get_or (values_at t i) 3 0

-- the grants of n records from record i on
unfoldable pub grants_from : List ℕ → ℕ → ℕ → List Grant
grants_from t i zero = []
grants_from t i (suc n) = grant_at t i ∷ grants_from t (suc i) n

-- the grants of a table
unfoldable pub grants_of : List ℕ → List Grant
grants_of t = grants_from t 0 (count t)

-- the fields of a grant's record: flow number, start, late, spare bits
abbrev pub fields_of : Grant → List ℕ
fields_of g = g.flow ∷ g.start ∷ g.late ∷ 0 ∷ 0 ∷ 0 ∷ []

-- the records of grants, one behind the other
unfoldable pub records : List Grant → List ℕ
records [] = []
records (g ∷ gs) = packed TableRecord (fields_of g) ++ records gs

-- the table of grants with the cycle c and the frame φ
unfoldable pub table_of : ℕ → ℕ → List Grant → List ℕ
table_of c φ gs = head (length gs) c φ ++ records gs

-- what writing a grant as record i comes to in a room of n bytes
unfoldable pub record_stored : Grant → ℕ → ℕ → Result Unit Misfit
record_stored g i n = stored TableRecord (fields_of g) (n - place i)

-- the room afterwards
unfoldable pub record_after : Grant → ℕ → List ℕ → List ℕ
record_after g i room = take (place i) room ++ room_after TableRecord (fields_of g) (drop (place i) room)

-- the room after grants are written as records, the first of them as record i
unfoldable pub records_after : ℕ → List Grant → List ℕ → List ℕ
records_after i [] room = room
records_after i (g ∷ gs) room = records_after (suc i) gs (record_after g i room)
