-- A record at the front of a slice, and one put at the front of a room. Assumes nothing.
use Rattle.std.specs.Prelude.{ℕ, ◌-◌, List, ◌++◌, cond, leb, ltb, length, take, drop, replicate, Option, Some, None, Result, Ok, Err}
use Rattle.fields.specs.declared.kind.Kind.{Kind}
use Rattle.fields.specs.declared.record.Misfit.{Misfit}
use Rattle.fields.specs.declared.record.Misfit.TheVariants.{Short, Wide}
use Rattle.fields.specs.Packed.{pack, unpack, fits}
use Rattle.fields.specs.Kinds.{widths, bytes, place}

-- the bytes of a record of these values
unfoldable pub packed : Kind → List ℕ → List ℕ
unfolding pack
packed kind vs = pack (widths kind) (bytes kind) vs

-- the values of the record at the front of the bytes; zeros where there is no whole record
unfoldable pub values_of : Kind → List ℕ → List ℕ
unfolding unpack
values_of kind bs = cond (leb (bytes kind) (length bs)) (unpack (widths kind) (bytes kind) (take (bytes kind) bs)) (replicate 6 0)

-- what reading finds at the front of the bytes: the record's values, or nothing where there is no whole record
unfoldable pub reading : Kind → List ℕ → Option (List ℕ)
unfolding unpack
reading kind bs = cond (leb (bytes kind) (length bs)) (Some (unpack (widths kind) (bytes kind) (take (bytes kind) bs))) None

-- what reading record i finds, counted from 0
abbrev pub reading_at : Kind → List ℕ → ℕ → Option (List ℕ)
reading_at kind bs i = reading kind (drop (place kind i) bs)

-- what writing these values into a room of n bytes comes to
unfoldable pub stored : Kind → List ℕ → ℕ → Result Unit Misfit
unfolding fits
stored kind vs n = cond (ltb n (bytes kind)) (Err Short) (cond (fits (widths kind) vs) (Ok tt) (Err Wide))

-- what a room holds: the new bytes where the writing was done, and otherwise what it held
abbrev pub afterwards : Result Unit Misfit → List ℕ → List ℕ → List ℕ
afterwards (Ok x) new old = new
afterwards (Err why) new old = old

-- the room afterwards: where the writing was done, the record's bytes at its front and the rest as it was
unfoldable pub room_after : Kind → List ℕ → List ℕ → List ℕ
unfolding stored packed
room_after kind vs room = afterwards (stored kind vs (length room)) (packed kind vs ++ drop (bytes kind) room) room

-- what writing these values as record i into a room of n bytes comes to
abbrev pub stored_at : Kind → List ℕ → ℕ → ℕ → Result Unit Misfit
stored_at kind vs i n = stored kind vs (n - place kind i)

-- the room after that: what stands before the record's place stays
abbrev pub room_after_at : Kind → List ℕ → ℕ → List ℕ → List ℕ
room_after_at kind vs i room = take (place kind i) room ++ room_after kind vs (drop (place kind i) room)
