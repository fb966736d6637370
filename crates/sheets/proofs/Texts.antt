-- The text of flows, and how long a line of it is. Assumes nothing.
use mathlib.Core.Path.{◌≡◌, refl, sym, ap, ap₂, ◌∙◌}
use mathlib.Core.List.{List, [], ◌∷◌, ◌++◌}
use Prim.Native.Nat.{ℕ, ◌+◌, ◌≤◌}
use native.Mathlib.Omega.{arith}
use lib.ListN.{length, length-append}
use lib.Seq.{sets, length-sets}
use Rattle.logic.proofs.Rooms.{sets_append}
use Rattle.words.specs.Decimals.{width, decimal}
use Rattle.words.specs.Places.{behind, put_at}
use Rattle.words.proofs.Decimals.{length-decimal, width-le}
use Rattle.words.proofs.Places.{put-fits}
use Rattle.flows.specs.declared.flow.Flow.{Flow}
use Rattle.sheets.specs.Texts.{flow, size, every, jitter, feed, piece, line, text}

-- ---- a word and a number

pub piece_is : (w : List ℕ) (v : ℕ) → piece w v ≡ w ++ decimal v
unfolding piece
piece_is w v = refl

pub length-piece : (w : List ℕ) (v : ℕ) → length (piece w v) ≡ length w + width v
length-piece w v = ap length (piece_is w v) ∙ length-append w (decimal v) ∙ omega (arith, length-decimal v)

pub piece-le : (w : List ℕ) (v : ℕ) → length (piece w v) ≤ length w + 4
piece-le w v = omega (arith, length-piece w v, width-le v)

-- ---- a line

-- five texts one behind the other
module _ (a b d e g : List ℕ) where
  length_five : length (a ++ (b ++ (d ++ (e ++ g)))) ≡ length a + (length b + (length d + (length e + length g)))
  length_five = simp length-append

-- the line of a flow in its five pieces
module _ (f : Flow) where
  pub line_is : line f ≡ piece flow f.number ++ (piece size f.size ++ (piece every f.interval ++ (piece jitter f.jitter ++ feed)))
  unfolding line
  line_is = refl

  pub length-line : length (line f)
      ≡ length (piece flow f.number) + (length (piece size f.size) + (length (piece every f.interval) + (length (piece jitter f.jitter) + 1)))
  length-line =
      ap length line_is ∙ length_five (piece flow f.number) (piece size f.size) (piece every f.interval) (piece jitter f.jitter) feed

-- ---- the lines

pub text-none : text [] ≡ []
unfolding text
text-none = refl

pub text_is : (f : Flow) (fs : List Flow) → text (f ∷ fs) ≡ line f ++ text fs
unfolding text
text_is f fs = refl
