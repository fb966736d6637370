-- The lines of a text, each with its line feed: "a rest without one counts as a line". Assumes nothing.
use Rattle.std.specs.Prelude.{ℕ, cond, List, [], ◌∷◌, eqb}

-- a byte in front of the first line
unfoldable pub before : ℕ → List (List ℕ) → List (List ℕ)
before b [] = (b ∷ []) ∷ []
before b (l ∷ ls) = (b ∷ l) ∷ ls

-- the lines
unfoldable pub lines : List ℕ → List (List ℕ)
lines [] = []
lines (b ∷ s) =
    let r = lines s in
    cond (eqb b 10) ((b ∷ []) ∷ r) (before b r)
