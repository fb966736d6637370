-- A number at a place of a text, and behind a word. Assumes nothing.
use Rattle.std.specs.Prelude.{ℕ, suc, ◌+◌, Bool, cond, ◌&&◌, ◌||◌, not, Option, Some, None, List, [], ◌∷◌, ltb, leb, eqb, length, get_or, take, drop}
use Rattle.words.specs.Words.{starts}
use Rattle.words.specs.Numerals.{digit, value}

-- how many digits the text begins with
unfoldable pub run : List ℕ → ℕ
run [] = 0
run (b ∷ s) =
    let r = run s in
    cond (digit b) (suc r) 0

-- 1 to 4 digits, with no leading zero except "0" itself
unfoldable pub formed : List ℕ → Bool
formed ds = (ltb 0 (length ds) && leb (length ds) 4) && (eqb (length ds) 1 || not (eqb (get_or ds 0 0) 48))

-- the number that the digits are, with the place behind them
unfoldable pub number_of : ℕ → List ℕ → Option (ℕ × ℕ)
number_of e ds = cond (formed ds) (Some (value 0 ds, e)) None

-- the number that stands at a place of the text
unfoldable pub number_at : ℕ → List ℕ → Option (ℕ × ℕ)
number_at at s = number_of (at + run (drop at s)) (take (run (drop at s)) (drop at s))

-- the number behind a word that stands at a place of the text
unfoldable pub number_after : ℕ → List ℕ → List ℕ → Option (ℕ × ℕ)
number_after at w s = cond (starts w (drop at s)) (number_at (at + length w) s) None
