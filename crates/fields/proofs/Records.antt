-- A record read and written, and its round trips for every kind of record. Assumes nothing.
use mathlib.Core.Path.{◌≡◌, sym, ap, ap₂, ◌∙◌}
use mathlib.Core.Bool.{true, false}
use mathlib.Core.List.{List, ◌++◌}
use Prim.Native.Nat.{ℕ, ◌-◌, ◌≤◌, ◌<◌}
use native.Mathlib.Omega.{arith}
use lib.Dec.{lit<}
use lib.ListN.{length, get_or, take, drop, replicate, length-append, length-take, get_or-eq_default}
use lib.Seq.{take_all, take_at, take-take, get_or-take, length-take-le}
use borrow.Author.Tests.{lt-ltb, le-ltb, lt-leb, le-leb}
use Rattle.logic.proofs.Tests.{by_lt}
use Rattle.std.proofs.Common.{Some, None, Result, Ok, Err}
use Rattle.fields.specs.declared.kind.Kind.{Kind}
use Rattle.fields.specs.declared.record.Misfit.{Misfit}
use Rattle.fields.specs.declared.record.Misfit.TheVariants.{Wide, Short}
use Rattle.fields.specs.Packed.{join, split, eights, pack, unpack, Fit, fits}
use Rattle.fields.specs.Kinds.{widths, bytes}
use Rattle.fields.specs.Records.{packed, values_of, reading, stored, afterwards, room_after}
use Rattle.fields.proofs.Packed.{unpack-pack, pack-unpack, length-pack, unpack_fit, fit_bytes}
use Rattle.fields.proofs.Widths.{whole-bytes}

-- a front of bytes is bytes
bytes_take : (n : ℕ) (s : List ℕ) → ((i : ℕ) → get_or s i 0 < 256) → (i : ℕ) → get_or (take n s) i 0 < 256
bytes_take n s b i =
    by_lt i n
    (λ h. rw (get_or-take n s i 0 h) (b i))
    (λ h. rw (get_or-eq_default (take n s) 0 {n = i} (simp length-take (omega arith))) (lit< tt))

module _ (kind : Kind) where
  -- ---- reading

  pub reading_short : (s : List ℕ) → length s < bytes kind → None ≡ reading kind s
  unfolding reading
  reading_short s h = rw (lt-leb (bytes kind) (length s) h)

  pub values_short : (s : List ℕ) → length s < bytes kind → values_of kind s ≡ replicate 6 0
  unfolding values_of
  values_short s h = rw (lt-leb (bytes kind) (length s) h)

  -- a whole record's values
  pub values-whole : (s : List ℕ) → bytes kind ≤ length s → values_of kind s ≡ unpack (widths kind) (bytes kind) (take (bytes kind) s)
  unfolding values_of
  values-whole s h = rw (le-leb (bytes kind) (length s) h)

  -- what the calls gave: the size k, the record's bytes, their number n and its values vs
  pub reading-whole : (s : List ℕ) (k : ℕ) (front : List ℕ) (ws : List ℕ) (n : ℕ) (vs : List ℕ) → k ≡ bytes kind → k ≤ length s → front ≡ take (k - 0) s
      → n ≡ join (eights (length front)) front → ws ≡ widths kind → vs ≡ split ws n → Some vs ≡ reading kind s
  unfolding reading unpack
  reading-whole s k front ws n vs ek h ef en ew ev =
      let d : k - 0 ≡ bytes kind = omega arith in
      let l : length (take (bytes kind) s) ≡ bytes kind = length-take-le (bytes kind) s (omega arith) in
      let is : vs ≡ unpack (widths kind) (bytes kind) (take (bytes kind) s) = ev ∙ ap₂ split ew (en ∙ rw (ef, d, l)) in
      rw (is, le-leb (bytes kind) (length s) (omega arith))

  -- ---- writing

  module _ (vs room : List ℕ) where
    -- what the room holds, by the answer
    room_is : (a : Result Unit Misfit) → a ≡ stored kind vs (length room) → afterwards a (packed kind vs ++ drop (bytes kind) room) room ≡ room_after kind vs room
    unfolding room_after
    room_is a e = ap (λ (x : Result Unit Misfit). afterwards x (packed kind vs ++ drop (bytes kind) room) room) e

    pub ends_short : length room < bytes kind → (Err Short ≡ stored kind vs (length room)) × (room ≡ room_after kind vs room)
    unfolding stored
    ends_short h = let a : Err Short ≡ stored kind vs (length room) = rw (lt-ltb (length room) (bytes kind) h) in (a, room_is (Err Short) a)

    pub ends-wide : bytes kind ≤ length room → fits (widths kind) vs ≡ false → (Err Wide ≡ stored kind vs (length room)) × (room ≡ room_after kind vs room)
    unfolding stored
    ends-wide h f = let a : Err Wide ≡ stored kind vs (length room) = rw (le-ltb (length room) (bytes kind) h, f) in (a, room_is (Err Wide) a)

    pub ends_done : fits (widths kind) vs ≡ true → bytes kind ≤ length room
        → (Ok tt ≡ stored kind vs (length room)) × (packed kind vs ++ drop (bytes kind) room ≡ room_after kind vs room)
    unfolding stored
    ends_done f h = let a : Ok tt ≡ stored kind vs (length room) = rw (le-ltb (length room) (bytes kind) h, f) in (a, room_is (Ok tt) a)

    -- what the calls gave: the size k, the number n and the bytes ys in the room's front
    pub ends-put : (k : ℕ) (ws : List ℕ) (n : ℕ) (ys : List ℕ) → k ≡ bytes kind → ws ≡ widths kind → fits (widths kind) vs ≡ true → k ≤ length room
        → n ≡ join ws vs → ys ≡ split (eights (length (take k room))) n
        → (Ok tt ≡ stored kind vs (length room)) × (ys ++ drop k room ≡ room_after kind vs room)
    unfolding packed pack
    ends-put k ws n ys ek ew f h en ey =
        let l : length (take k room) ≡ bytes kind = rw ek (length-take-le (bytes kind) room (omega arith)) in
        let is : ys ≡ packed kind vs = ey ∙ ap₂ (λ (x z : ℕ). split (eights x) z) l (en ∙ ap (λ (x : List ℕ). join x vs) ew) in
        let done = ends_done f (omega arith) in
        (done.0, rw (is, ek) done.1)

  -- ---- there and back

  pub length-packed : (vs : List ℕ) → length (packed kind vs) ≡ bytes kind
  unfolding packed
  length-packed vs = length-pack (widths kind) (bytes kind) vs

  -- values that fit are read back, whatever stands behind them
  pub values-packed : (vs rest : List ℕ) → Fit (widths kind) vs → values_of kind (packed kind vs ++ rest) ≡ vs
  unfolding packed
  values-packed vs rest h =
      let front : take (bytes kind) (packed kind vs ++ rest) ≡ packed kind vs = take_at (packed kind vs) rest (bytes kind) (length-packed vs) in
      values-whole (packed kind vs ++ rest) (simp length-append (omega (arith, length-packed vs)))
      ∙ ap (unpack (widths kind) (bytes kind)) front
      ∙ unpack-pack (widths kind) (bytes kind) vs (whole-bytes kind) h

  -- the values of a record fit
  pub values_fit : (s : List ℕ) → bytes kind ≤ length s → Fit (widths kind) (values_of kind s)
  values_fit s h = rw (values-whole s h) (unpack_fit (widths kind) (bytes kind) (take (bytes kind) s))

  -- a whole record's bytes are written back
  pub packed-values : (s : List ℕ) → length s ≡ bytes kind → ((i : ℕ) → get_or s i 0 < 256) → packed kind (values_of kind s) ≡ s
  unfolding packed
  packed-values s l b =
      let fit : Fit (eights (bytes kind)) s = rw l at (fit_bytes s b) in
      ap (pack (widths kind) (bytes kind)) (values-whole s (omega arith) ∙ ap (unpack (widths kind) (bytes kind)) (take_all (bytes kind) s (omega arith)))
      ∙ pack-unpack (widths kind) (bytes kind) s (whole-bytes kind) fit

  -- the record at the front of bytes is written back
  pub packed_front : (s : List ℕ) → bytes kind ≤ length s → ((i : ℕ) → get_or s i 0 < 256) → packed kind (values_of kind s) ≡ take (bytes kind) s
  packed_front s h b =
      let front = take (bytes kind) s in
      let l : length front ≡ bytes kind = length-take-le (bytes kind) s h in
      let same : values_of kind front ≡ values_of kind s =
      values-whole front (omega arith) ∙ ap (unpack (widths kind) (bytes kind)) (take-take (bytes kind) (bytes kind) s (omega arith)) ∙ sym (values-whole s h) in
      ap (packed kind) (sym same) ∙ packed-values front l (bytes_take (bytes kind) s b)
