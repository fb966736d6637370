-- Document 01's "Packed forms": the field widths of each kind of record, and where its records stand. Assumes nothing.
use Rattle.std.specs.Prelude.{ℕ, ◌+◌, ◌*◌, List, [], ◌∷◌}
use Rattle.fields.specs.declared.kind.Kind.{Kind}
use Rattle.fields.specs.declared.kind.Kind.TheVariants.{ListHead, ListRecord, TableHead, TableRecord}

-- the widths of a record's fields in bits, in order; a width of 0 is no field
abbrev pub widths : Kind → List ℕ
-- edition, kind, spare, count
widths ListHead = 4 ∷ 4 ∷ 8 ∷ 16 ∷ 0 ∷ 0 ∷ []
-- number, size, interval, jitter
widths ListRecord = 10 ∷ 12 ∷ 13 ∷ 13 ∷ 0 ∷ 0 ∷ []
-- edition, kind, spare, count, cycle, frame
widths TableHead = 4 ∷ 4 ∷ 8 ∷ 16 ∷ 16 ∷ 16 ∷ []
-- flow number, start, late, spare
widths TableRecord = 10 ∷ 12 ∷ 12 ∷ 6 ∷ 0 ∷ 0 ∷ []

-- the bytes of a record
abbrev pub bytes : Kind → ℕ
bytes ListHead = 4
bytes ListRecord = 6
bytes TableHead = 8
bytes TableRecord = 5

-- the bytes of the head that stands before records of a kind; a head stands first
abbrev pub head_bytes : Kind → ℕ
head_bytes ListHead = 0
head_bytes ListRecord = 4
head_bytes TableHead = 0
head_bytes TableRecord = 8

-- where record i stands, counted from 0: behind the head and the records before it
abbrev pub place : Kind → ℕ → ℕ
place kind i = head_bytes kind + bytes kind * i
