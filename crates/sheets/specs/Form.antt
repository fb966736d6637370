-- Document 01: "Each line is exactly `flow N size N every N jitter N` and a line feed, with single spaces and these four words
-- in this order." What a line is, and what a sheet is. Assumes nothing.
use Rattle.std.specs.Prelude.{ℕ, ◌≡◌, List, [], ◌∷◌, ◌++◌}
use Rattle.flows.specs.declared.flow.Flow.{Flow}
use Rattle.words.specs.Numerals.{Numeral}
use Rattle.sheets.specs.Texts.{flow, size, every, jitter, feed}

-- the bytes s are a line, and f is the flow that it gives
pub record LineOf (f : Flow) (s : List ℕ) : Type 0 where
  -- its four N
  pub first : List ℕ
  pub second : List ℕ
  pub third : List ℕ
  pub fourth : List ℕ
  -- they are decimal, 1 to 4 digits, with no leading zero, and give the flow's number, size, interval and jitter
  pub says_number : Numeral f.number first
  pub says_size : Numeral f.size second
  pub says_interval : Numeral f.interval third
  pub says_jitter : Numeral f.jitter fourth
  -- between them stand the four words, and at the end the line feed
  pub exactly : s ≡ flow ++ (first ++ (size ++ (second ++ (every ++ (third ++ (jitter ++ (fourth ++ feed)))))))

-- "line n becomes record n": a sheet of flows is a line for each of them, in their order, and nothing else
abbrev pub SheetOf : List Flow → List ℕ → Type 0
SheetOf [] s = s ≡ []
SheetOf (f ∷ fs) s = (l : List ℕ) × (rest : List ℕ) × LineOf f l × SheetOf fs rest × (s ≡ l ++ rest)
