-- A part of a slice. Assumes nothing.
use mathlib.Core.Path.{◌≡◌}
use mathlib.Core.List.{List}
use Prim.Native.Nat.{ℕ, ◌-◌}
use native.Mathlib.Omega.{arith}
use lib.ListN.{length, take, drop, length-drop}
use lib.Seq.{take_all}

-- the part from a place to the end is all that stands there
pub part_to_end : (place : ℕ) (s : List ℕ) → take (length s - place) (drop place s) ≡ drop place s
part_to_end place s = take_all (length s - place) (drop place s) (simp length-drop (omega arith))
