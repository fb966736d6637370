-- A text written at a place of a room, where it fits. Assumes nothing.
use Rattle.std.specs.Prelude.{ℕ, ◌≡◌, ◌+◌, ◌-◌, ◌^◌, ◌≤◌, Bool, cond, List, leb, length, min}
use Rattle.std.proofs.lemmas.List.Edits.{sets}

-- from a place on, k bytes are within n
unfoldable pub within : ℕ → ℕ → ℕ → Bool
within at k n = leb (at + k) n

-- the place behind a text in a room of n bytes; the place itself where the text does not fit
unfoldable pub behind : ℕ → List ℕ → ℕ → ℕ
behind at w n = cond (within at (length w) n) (at + length w) at

-- the room afterwards
unfoldable pub put_at : List ℕ → ℕ → List ℕ → List ℕ
put_at room at w = cond (within at (length w) (length room)) (sets room at w) room

-- the text w printed at a place of a room: end is the place behind it, and out the room afterwards
pub record Prints (room : List ℕ) (at : ℕ) (w : List ℕ) (end : ℕ) (out : List ℕ) : Type 0 where
  -- whether or not it fits: but no place is behind the last that a number of 64 bits has
  pub place : end ≡ min (at + length w) (2 ^ 64 - 1)
  -- where it fits
  pub written : at + length w ≤ length room → (end ≡ at + length w) × (out ≡ sets room at w)
