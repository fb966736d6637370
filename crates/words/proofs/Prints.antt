-- Texts printed into a room, one behind the other. Assumes nothing.
use Rattle.std.proofs.Common.{◌≡◌, ℕ, ◌+◌, ◌-◌, ◌≤◌, List, [], ◌++◌, append_assoc, length, take, drop, sym, ap, ap₂, ◌∙◌, refl, arith, min, length-append, length-drop}
use mathlib.Core.List.{append-nil}
use lib.Dec.{leb}
use lib.ListN.{drop_of_length-le}
use lib.Seq.{sets, sets-eq, length-sets, drop-drop, take_all}
use borrow.Rule.Slice.PartMut.{put_mid}
use borrow.Author.Tests.{le-leb, lt-leb}
use Rattle.logic.proofs.Tests.{by_lt}
use Rattle.logic.proofs.Rooms.{sets_append, sets_front}
use Rattle.words.specs.Places.{put_at, Prints}
use Rattle.words.proofs.Places.{put-fits}

-- nothing is printed
pub prints_none : (room : List ℕ) (at : ℕ) → at ≤ 18446744073709551615 → Prints room at [] at room
prints_none room at h = record { place = omega arith; written = λ l. (omega arith, refl) }

-- one text behind another
pub prints_then : (room : List ℕ) (at : ℕ) (a : List ℕ) (p : ℕ) (x b : List ℕ) (q : ℕ) (y : List ℕ)
    → Prints room at a p x → Prints x p b q y → Prints room at (a ++ b) q y
prints_then room at a p x b q y first next = record {
  place = omega (arith, first.place, next.place, length-append a b);
  written = λ h.
      let one = first.written (omega (arith, h, length-append a b)) in
      let l : length x ≡ length room = ap length one.1 ∙ length-sets room at a in
      let two = next.written (omega (arith, h, one.0, l, length-append a b)) in (
        omega (arith, one.0, two.0, length-append a b),
        two.1 ∙ ap₂ (λ (r : List ℕ) (k : ℕ). sets r k b) one.1 one.0 ∙ sym (sets_append room at a b),
      );
}

-- a text that is put where it fits, as the calls give it
pub prints_put : (room : List ℕ) (at : ℕ) (w : List ℕ) (k end : ℕ) (out : List ℕ) → k ≡ length w → length room ≤ 18446744073709551615
    → end ≡ min (at + k) 18446744073709551615 → out ≡ put_at room at w → Prints room at w end out
prints_put room at w k end out q l e o = record {
  place = omega (arith, q, e);
  written = λ h. (omega (arith, q, e, l, h), o ∙ (put-fits at w room h).1);
}

-- at the front of a room that is long enough: the text, and the rest of the room
pub prints_front : (room w : List ℕ) (end : ℕ) (out : List ℕ) → length w ≤ length room → Prints room 0 w end out
    → (end ≡ length w) × (out ≡ w ++ drop (length w) room)
prints_front room w end out h p =
    let done = p.written (omega (arith, h)) in
    (omega (arith, done.0), done.1 ∙ sets_front w room h)

-- a text that was measured fits n bytes where its length does
pub prints_fits : (room w : List ℕ) (end : ℕ) (out : List ℕ) (n : ℕ) → n ≤ 9223372036854775807 → Prints room 0 w end out → leb end n ≡ leb (length w) n
prints_fits room w end out n h p =
    by_lt n (length w) (λ l. lt-leb end n (omega (arith, p.place)) ∙ sym (lt-leb (length w) n l))
    (λ l. le-leb end n (omega (arith, p.place)) ∙ sym (le-leb (length w) n l))

-- a text printed at the front of the part of a room that begins at a place, or at the room's end where that comes first, as the calls
-- give it
pub prints_part : (room : List ℕ) (at p k : ℕ) (w : List ℕ) (size end : ℕ) (part : List ℕ) → length room ≤ 18446744073709551615
    → p ≡ min at (length room) → k ≡ length room - p → Prints (take k (drop p room)) 0 w size part → end ≡ min (at + size) 18446744073709551615
    → Prints room at w end (put_mid p k room part)
prints_part room at p k w size end part l ep ek printed e = record {
  place = omega (arith, printed.place, e);
  written = λ h.
      let a : p ≡ at = omega (arith, ep, h) in
      let t : take k (drop p room) ≡ drop at room = rw a (take_all k (drop at room) (simp length-drop (omega (arith, ek, a)))) in
      let none : drop k (drop p room) ≡ [] = rw a (drop_of_length-le (drop at room) {i = k} (simp length-drop (omega (arith, ek, a)))) in
      let there : length w ≤ length (drop at room) = simp length-drop (omega (arith, h)) in
      let done = printed.written (rw t (omega (arith, there))) in
      let front : part ≡ w ++ drop (length w) (drop at room) = rw t at done.1 ∙ sets_front w (drop at room) there in
      let rest : drop (length w) (drop at room) ≡ drop (at + length w) room = drop-drop (length w) at room in
      let put : put_mid p k room part ≡ take at room ++ (w ++ drop (length w) (drop at room)) = rw (none, append-nil, front, a) in
      (omega (arith, done.0, e, l, h), put ∙ rw (rest, ← append_assoc) (sym (sets-eq w room at h)));
}
