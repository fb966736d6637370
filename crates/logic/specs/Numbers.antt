-- A word for numbers that the library has not. Assumes nothing.
use Rattle.std.specs.Prelude.{Bool, ◌&&◌, ℕ, leb}

-- x is one of a, .., b
abbrev pub among : ℕ → ℕ → ℕ → Bool
among a b x = leb a x && leb x b
