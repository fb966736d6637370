-- What the code's own parts answer. Assumes nothing.
use Rattle.std.specs.Prelude.{Bool, ◌&&◌, List, ℕ, eqb, get_or}
use Rattle.lists.specs.Lists.{head_of}

-- what test 2 asks of the head: edition 1, kind 1 and spare bits 0
abbrev pub headed : List ℕ → Bool
headed l = eqb (get_or (head_of l) 0 0) 1 && (eqb (get_or (head_of l) 1 0) 1 && eqb (get_or (head_of l) 2 0) 0)
