-- A word at the front of a text. Assumes nothing.
use Rattle.std.specs.Prelude.{ℕ, Bool, true, false, ◌&&◌, List, [], ◌∷◌, eqb}

-- the text begins with the word
unfoldable pub starts : List ℕ → List ℕ → Bool
starts [] s = true
starts (w ∷ ws) [] = false
starts (w ∷ ws) (x ∷ s) = eqb x w && starts ws s
