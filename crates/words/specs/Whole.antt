-- A number of any size in decimal. Assumes nothing.
use Rattle.std.specs.Prelude.{ℕ, zero, suc, ◌+◌, ◌/◌, cond, List, ltb}
use Rattle.words.specs.Decimals.{digits}

-- how many digits a number has that is at most n
unfoldable pub figures_to : ℕ → ℕ → ℕ
figures_to zero v = 1
figures_to (suc n) v = cond (ltb v 10) 1 (figures_to n (v / 10) + 1)

-- how many digits a number has
unfoldable pub figures : ℕ → ℕ
figures v = figures_to v v

-- a number in decimal
unfoldable pub numeral : ℕ → List ℕ
numeral v = digits (figures v) v
