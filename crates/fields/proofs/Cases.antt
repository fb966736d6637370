-- Document 01's two worked records, there and back, as one list under one claim. Assumes nothing.
use mathlib.Core.Path.{◌≡◌, refl}
use mathlib.Core.List.{List, [], ◌∷◌}
use Prim.Native.Nat.{ℕ}
use Rattle.logic.specs.Lists.{All}
use Rattle.fields.specs.declared.kind.Kind.{Kind}
use Rattle.fields.specs.declared.kind.Kind.TheVariants.{ListRecord, TableRecord}
use Rattle.fields.specs.Records.{packed, values_of}

-- a kind of record, its values and its bytes
abbrev records : List (Kind × List ℕ × List ℕ)
records =
    (ListRecord, 1 ∷ 1 ∷ 4 ∷ 2 ∷ 0 ∷ 0 ∷ [], 0x00 ∷ 0x40 ∷ 0x04 ∷ 0x00 ∷ 0x80 ∷ 0x02 ∷ [])
    ∷ (TableRecord, 1 ∷ 6 ∷ 2 ∷ 0 ∷ 0 ∷ 0 ∷ [], 0x00 ∷ 0x40 ∷ 0x18 ∷ 0x00 ∷ 0x80 ∷ [])
    ∷ []

pub worked : All (λ r. (packed r.0 r.1 ≡ r.2) × (values_of r.0 r.2 ≡ r.1)) records
unfolding packed values_of
worked = ((refl, refl), ((refl, refl), tt))
