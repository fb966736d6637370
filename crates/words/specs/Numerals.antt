-- Document 01's N: "N is decimal, 1 to 4 digits, with no leading zero except "0" itself." Assumes nothing.
use Rattle.std.specs.Prelude.{ℕ, ◌+◌, ◌-◌, ◌*◌, ◌≤◌, ◌<◌, ◌≡◌, Bool, ◌&&◌, List, [], ◌∷◌, ltb, leb, length, get_or}
use Rattle.logic.specs.Lists.{All}

-- the byte is one of "0" to "9"
abbrev pub Digit : ℕ → Type 0
Digit b = (48 ≤ b) × (b < 58)

-- the same as a test
unfoldable pub digit : ℕ → Bool
digit b = leb 48 b && ltb b 58

-- the number that digits make behind n
unfoldable pub value : ℕ → List ℕ → ℕ
value n [] = n
value n (b ∷ s) = value (n * 10 + (b - 48)) s

-- the bytes that are an N, and the number that they say
pub record Numeral (v : ℕ) (ds : List ℕ) : Type 0 where
  -- "decimal"
  pub decimal : All Digit ds
  -- "1 to 4 digits"
  pub some : 1 ≤ length ds
  pub few : length ds ≤ 4
  -- "with no leading zero except "0" itself"
  pub lead : 1 < length ds → get_or ds 0 0 ≡ 48 → ⊥
  pub says : value 0 ds ≡ v
