-- A text written at a place of a room, each way that it can end. Assumes nothing.
use mathlib.Core.Path.{◌≡◌, refl, sym, ap, ◌∙◌}
use mathlib.Core.Bool.{true, false}
use mathlib.Core.List.{List, ◌++◌, append_assoc}
use Prim.Native.Nat.{ℕ, ◌+◌, ◌-◌, ◌≤◌, ◌<◌}
use native.Mathlib.Omega.{arith}
use lib.Dec.{leb}
use lib.ListN.{length, drop}
use lib.Seq.{sets, drop-drop}
use Rattle.std.proofs.lemmas.List.Edits.{sets-eq}
use borrow.Rule.Slice.PartMut.{put_mid}
use borrow.Author.Tests.{le-leb, lt-leb, leb-true}
use Rattle.logic.proofs.Tests.{by_lt}
use Rattle.logic.proofs.Rooms.{sets_front}
use Rattle.words.specs.Places.{within, behind, put_at}

module _ (at k n : ℕ) where
  pub within_long : n < k → within at k n ≡ false
  unfolding within
  within_long h = lt-leb (at + k) n (omega arith)

  pub within-rest : k ≤ n → leb at (n - k) ≡ within at k n
  unfolding within
  within-rest h =
      by_lt n (at + k) (λ l. lt-leb at (n - k) (omega arith) ∙ sym (lt-leb (at + k) n l)) (λ l. le-leb at (n - k) (omega arith) ∙ sym (le-leb (at + k) n l))

  pub within-le : within at k n ≡ true → at + k ≤ n
  unfolding within
  within-le e = leb-true (at + k) n e

-- a word copied over a part of the room, as the calls give it
pub copied-sets : (at k : ℕ) (room w part : List ℕ) → at + length w ≤ length room → k ≡ length w → part ≡ w → put_mid at k room part ≡ sets room at w
copied-sets at k room w part h e q =
    let rest : drop (length w) (drop at room) ≡ drop (at + length w) room = drop-drop (length w) at room in
    rw (e, q) (rw (rest, ← append_assoc) (sym (sets-eq w room at h)))

module _ (at : ℕ) (w room : List ℕ) where
  -- k is the text's length, as the calls give it
  module _ (k : ℕ) (q : k ≡ length w) where
    pub put_short : within at k (length room) ≡ false → (at ≡ behind at w (length room)) × (room ≡ put_at room at w)
    unfolding behind put_at
    put_short e = let e' = rw q at e in rw e' (refl, refl)

    pub put_done : (out : List ℕ) → within at k (length room) ≡ true → out ≡ sets room at w
        → (at + k ≡ behind at w (length room)) × (out ≡ put_at room at w)
    unfolding behind put_at
    put_done out e o = let e' = rw q at e in rw e' (ap (λ (n : ℕ). at + n) q, o)

  -- what fits is written
  pub put-fits : at + length w ≤ length room → (behind at w (length room) ≡ at + length w) × (put_at room at w ≡ sets room at w)
  unfolding behind put_at within
  put-fits h = rw (le-leb (at + length w) (length room) h) (refl, refl)

-- at the front of a room that is long enough: the text, and the rest of the room
pub put_front : (room w : List ℕ) → length w ≤ length room → put_at room 0 w ≡ w ++ drop (length w) room
put_front room w h = (put-fits 0 w room (omega arith)).1 ∙ sets_front w room h
