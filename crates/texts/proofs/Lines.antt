-- The lines of the program: their sizes. Assumes nothing.
use mathlib.Core.Path.{◌≡◌, refl, ap, ◌∙◌}
use mathlib.Core.List.{List, ◌++◌}
use Prim.Native.Nat.{ℕ, ◌+◌, ◌≤◌, ◌<◌}
use native.Mathlib.Omega.{arith}
use lib.ListN.{length, length-append}
use Rattle.words.specs.Characters.{bytes}
use Rattle.words.specs.Whole.{figures, numeral}
use Rattle.words.proofs.Whole.{length-numeral, figures-le}
use Rattle.tables.specs.declared.packed.Grant.{Grant}
use Rattle.texts.specs.Texts.{piece, head_line, grant_line, refusal_line}

-- ---- a word and a number

piece_is : (w : List ℕ) (v : ℕ) → piece w v ≡ w ++ numeral v
unfolding piece
piece_is w v = refl

pub length-piece : (w : List ℕ) (v : ℕ) → length (piece w v) ≡ length w + figures v
length-piece w v = ap length (piece_is w v) ∙ length-append w (numeral v) ∙ omega (arith, length-numeral v)

piece-le : (w : List ℕ) (v : ℕ) → v < 18446744073709551616 → length (piece w v) ≤ length w + 20
piece-le w v h = omega (arith, length-piece w v, figures-le v h)

-- ---- the lines

-- the first line of a plan
module _ (c φ n k : ℕ) where
  pub length-head : length (head_line c φ n k)
      ≡ length (piece (bytes "cycle ") c) + (length (piece (bytes " frame ") φ) + (length (piece (bytes " grants ") n) + (length (piece (bytes " load ") k) + 1)))
  unfolding head_line
  length-head = simp length-append

  pub head-le : c < 65536 → φ < 65536 → n < 18446744073709551616 → k < 18446744073709551616 → length (head_line c φ n k) ≤ 128
  head-le c₀ φ₀ n₀ k₀ =
      omega
      (arith, length-head, piece-le (bytes "cycle ") c (omega arith), piece-le (bytes " frame ") φ (omega arith), piece-le (bytes " grants ") n n₀, piece-le (bytes " load ") k k₀)

-- the line of a grant
module _ (g : Grant) where
  pub length-grant : length (grant_line g)
      ≡ length (piece (bytes "grant ") g.start) + (length (piece (bytes " flow ") g.flow) + (length (piece (bytes " late ") g.late) + 1))
  unfolding grant_line
  length-grant = simp length-append

  pub grant-le : g.start < 65536 → g.flow < 65536 → g.late < 65536 → length (grant_line g) ≤ 128
  grant-le s f l =
      omega
      (arith, length-grant, piece-le (bytes "grant ") g.start (omega arith), piece-le (bytes " flow ") g.flow (omega arith), piece-le (bytes " late ") g.late (omega arith))

-- the line of a refusal
module _ (n p : ℕ) where
  pub length-refusal : length (refusal_line n p) ≡ length (piece (bytes "refused ") n) + (length (piece (bytes " at ") p) + 1)
  unfolding refusal_line
  length-refusal = simp length-append

  pub refusal-le : n < 4294967296 → p < 18446744073709551616 → length (refusal_line n p) ≤ 128
  refusal-le n₀ p₀ = omega (arith, length-refusal, piece-le (bytes "refused ") n (omega arith), piece-le (bytes " at ") p p₀)
