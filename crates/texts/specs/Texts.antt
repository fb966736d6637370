-- Document 01: "The first line gives cycle, frame, number of records and load; each later line start, flow and late. A refusal
-- prints one line, as `refused 10 at 2`." What the program prints. Assumes nothing.
use Rattle.std.specs.Prelude.{ℕ, List, [], ◌∷◌, ◌++◌}
use Rattle.words.specs.Characters.{bytes}
use Rattle.words.specs.Whole.{numeral}
use Rattle.refusals.specs.declared.Refusal.{Refusal}
use Rattle.refusals.specs.Refusals.{number, place}
use Rattle.lists.specs.Lists.{flows_of}
use Rattle.lists.specs.Facts.{load}
use Rattle.tables.specs.declared.packed.Grant.{Grant}
use Rattle.tables.specs.Tables.{count, cycle_of, frame_of, grants_of}

-- the line feed
abbrev pub feed : List ℕ
feed = bytes "\n"

-- a word and the number behind it
unfoldable pub piece : List ℕ → ℕ → List ℕ
piece w v = w ++ numeral v

-- the first line of a plan, with the cycle c, the frame φ, n records and the load k
unfoldable pub head_line : ℕ → ℕ → ℕ → ℕ → List ℕ
head_line c φ n k = piece (bytes "cycle ") c ++ (piece (bytes " frame ") φ ++ (piece (bytes " grants ") n ++ (piece (bytes " load ") k ++ feed)))

-- the line of a grant
unfoldable pub grant_line : Grant → List ℕ
grant_line g = piece (bytes "grant ") g.start ++ (piece (bytes " flow ") g.flow ++ (piece (bytes " late ") g.late ++ feed))

-- the lines of grants
unfoldable pub grant_lines : List Grant → List ℕ
grant_lines [] = []
grant_lines (g ∷ gs) = grant_line g ++ grant_lines gs

-- the text of a plan: of a list and its table
unfoldable pub plan_text : List ℕ → List ℕ → List ℕ
plan_text l t = head_line (cycle_of t) (frame_of t) (count t) (load (flows_of l)) ++ grant_lines (grants_of t)

-- the line of a refusal, with its number n and its place p
unfoldable pub refusal_line : ℕ → ℕ → List ℕ
refusal_line n p = piece (bytes "refused ") n ++ (piece (bytes " at ") p ++ feed)

-- the text of a refusal
unfoldable pub refusal_text : Refusal → List ℕ
refusal_text r = refusal_line (number r) (place r)
