-- Document 01's "The sheet": its words, and the text of flows. Assumes nothing.
use Rattle.std.specs.Prelude.{ℕ, List, [], ◌∷◌, ◌++◌}
use Rattle.flows.specs.declared.flow.Flow.{Flow}
use Rattle.words.specs.Characters.{bytes}
use Rattle.words.specs.Decimals.{decimal}

-- the four words, each with the spaces around it
abbrev pub flow : List ℕ
flow = bytes "flow "

abbrev pub size : List ℕ
size = bytes " size "

abbrev pub every : List ℕ
every = bytes " every "

abbrev pub jitter : List ℕ
jitter = bytes " jitter "

-- the line feed
abbrev pub feed : List ℕ
feed = bytes "\n"

-- a word and the number behind it
unfoldable pub piece : List ℕ → ℕ → List ℕ
piece w v = w ++ decimal v

-- the line of a flow
unfoldable pub line : Flow → List ℕ
line f = piece flow f.number ++ (piece size f.size ++ (piece every f.interval ++ (piece jitter f.jitter ++ feed)))

-- the sheet of flows
unfoldable pub text : List Flow → List ℕ
text [] = []
text (f ∷ fs) = line f ++ text fs
