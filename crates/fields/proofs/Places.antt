-- A record at any place of bytes, for every kind of record: its place, read, and written. Assumes nothing.
use mathlib.Core.Path.{◌≡◌, sym, ap, ◌∙◌}
use mathlib.Core.Bool.{true}
use mathlib.Core.List.{List, [], ◌++◌, append-nil}
use Prim.Native.Nat.{ℕ, ◌+◌, ◌-◌, ◌*◌, ◌/◌, ◌≤◌, ◌<◌}
use native.Mathlib.Omega.{arith}
use lib.ListN.{length, take, drop, length-drop, take-append-drop, drop_of_length-le}
use lib.Seq.{length-take-le, take-take}
use borrow.Author.Tests.{le-leb}
use Rattle.logic.proofs.Tests.{by_test}
use Rattle.fields.specs.declared.kind.Kind.{Kind}
use Rattle.fields.specs.declared.kind.Kind.TheVariants.{ListHead, ListRecord, TableHead, TableRecord}
use Rattle.std.proofs.Common.{None, Some, Result, Ok, Err}
use Rattle.fields.specs.declared.record.Misfit.{Misfit}
use Rattle.fields.specs.declared.record.Misfit.TheVariants.{Short}
use Rattle.fields.specs.Packed.{fits, unpack}
use Rattle.fields.specs.Kinds.{widths, bytes, head_bytes, place}
use Rattle.fields.specs.Records.{reading, stored, room_after}
use Rattle.fields.proofs.Widths.{bytes_pos}
use Rattle.fields.proofs.Records.{reading_short, ends_short, ends-wide, ends_done}

-- ---- the place

-- as many records as there are places for end within the numbers of 64 bits, as the code counts them
module _ (i m : ℕ) where
  pub place_within : (kind : Kind) → m ≡ (18446744073709551615 - head_bytes kind) / bytes kind → i < m → place kind i + bytes kind ≤ 18446744073709551615
  place_within ListHead e h = omega arith
  place_within ListRecord e h = omega arith
  place_within TableHead e h = omega arith
  place_within TableRecord e h = omega arith

  -- and no more
  pub place_beyond : (kind : Kind) → m ≡ (18446744073709551615 - head_bytes kind) / bytes kind → m ≤ i → 18446744073709551616 ≤ place kind i + bytes kind
  place_beyond ListHead e h = omega arith
  place_beyond ListRecord e h = omega arith
  place_beyond TableHead e h = omega arith
  place_beyond TableRecord e h = omega arith

-- ---- reading

module _ (kind : Kind) (place : ℕ) (s : List ℕ) where
  -- where the bytes end before a record at the place does nothing is read
  pub reads_beyond : length s < place + bytes kind → None ≡ reading kind (drop place s)
  reads_beyond h = reading_short kind (drop place s) (simp length-drop (omega (arith, bytes_pos kind)))

  -- what is read of the record's n bytes alone, as the call gives them
  pub reads_part : place + bytes kind ≤ length s → (n : ℕ) → n ≡ bytes kind → reading kind (take n (drop place s)) ≡ reading kind (drop place s)
  unfolding reading
  reads_part h n e =
      let there : bytes kind ≤ length (drop place s) = simp length-drop (omega arith) in
      let here : bytes kind ≤ length (take (bytes kind) (drop place s)) = rw (length-take-le (bytes kind) (drop place s) there) (omega arith) in
      rw e (rw (le-leb _ _ here, le-leb _ _ there, take-take (bytes kind) (bytes kind) (drop place s) (omega arith)))

-- ---- writing

module _ (kind : Kind) (place : ℕ) (vs room : List ℕ) where
  -- where no whole record has room nothing is written
  pub ends_beyond : length room < place + bytes kind
      → (Err Short ≡ stored kind vs (length room - place)) × (room ≡ take place room ++ room_after kind vs (drop place room))
  ends_beyond h =
      let ends = ends_short kind vs (drop place room) (simp length-drop (omega (arith, h, bytes_pos kind))) in (
        ends.0 ∙ ap (stored kind vs) (length-drop place room),
        sym (take-append-drop place room) ∙ ap (λ (x : List ℕ). take place room ++ x) ends.1,
      )

  -- the answer a and the bytes ys in the n bytes of the record, as the call gave them
  pub ends_part : place + bytes kind ≤ length room → (n : ℕ) → n ≡ bytes kind → (a : Result Unit Misfit) (ys : List ℕ) → let part = take n (drop place room) in
      a ≡ stored kind vs (length part) → ys ≡ room_after kind vs part
      → (a ≡ stored kind vs (length room - place))
      × (take place room ++ (ys ++ drop n (drop place room)) ≡ take place room ++ room_after kind vs (drop place room))
  ends_part h n e a ys ea ey =
      by_test (fits (widths kind) vs)
      (λ f. met (ends_done kind vs part f here) (ends_done kind vs s f there) (rw (none, append-nil, e)))
      (λ f. met (ends-wide kind vs part here f) (ends-wide kind vs s there f) (take-append-drop n s))
    where
      s : List ℕ
      s = drop place room

      part : List ℕ
      part = take n s

      there : bytes kind ≤ length s
      there = simp length-drop (omega (arith, h))

      here : bytes kind ≤ length part
      here = rw (length-take-le n s (rw e there)) (omega (arith, e))

      none : drop (bytes kind) part ≡ []
      none = drop_of_length-le part {i = bytes kind} (rw (length-take-le n s (rw e there)) (omega (arith, e)))

      -- the same answer b to both, and the same bytes in both
      met : {b : Result Unit Misfit} {xs zs : List ℕ} → (b ≡ stored kind vs (length part)) × (xs ≡ room_after kind vs part) → (b ≡ stored kind vs (length s)) × (zs ≡ room_after kind vs s)
          → xs ++ drop n s ≡ zs
          → (a ≡ stored kind vs (length room - place)) × (take place room ++ (ys ++ drop n s) ≡ take place room ++ room_after kind vs s)
      met p q j = (
        ea ∙ sym p.0 ∙ q.0 ∙ ap (stored kind vs) (length-drop place room),
        ap (λ (x : List ℕ). take place room ++ x) (ap (λ (x : List ℕ). x ++ drop n s) (ey ∙ sym p.1) ∙ j ∙ q.1),
      )
