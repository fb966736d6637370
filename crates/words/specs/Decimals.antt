-- A number in decimal. Assumes nothing.
use Rattle.std.specs.Prelude.{ℕ, zero, suc, ◌+◌, ◌/◌, ◌%◌, cond, List, [], ◌∷◌, ◌++◌, ltb}

-- how many digits a number below 10,000 has
unfoldable pub width : ℕ → ℕ
width v = cond (ltb v 10) 1 (cond (ltb v 100) 2 (cond (ltb v 1000) 3 4))

-- the last k digits of a number
unfoldable pub digits : ℕ → ℕ → List ℕ
digits zero v = []
digits (suc k) v = digits k (v / 10) ++ ((48 + v % 10) ∷ [])

-- a number below 10,000 in decimal
unfoldable pub decimal : ℕ → List ℕ
decimal v = digits (width v) v
