-- A text in characters, as its bytes. Assumes nothing.
use mathlib.Core.List as L
use Rattle.std.specs.Prelude.{ℕ}
use Prim.Native.Char.{code}
use Prim.Native.String.{String, [], ◌∷◌}

-- the bytes of a text all of whose characters are below 128
abbrev pub bytes : String → L.List ℕ
bytes [] = L.[]
bytes (c ∷ s) = L.◌∷◌ (code c) (bytes s)
