-- Document 01's case A as a packed table, computed from the definitions. Assumes nothing.
use mathlib.Core.Path.{◌≡◌, refl}
use mathlib.Core.List.{List, [], ◌∷◌}
use Prim.Native.Nat.{ℕ}
use Rattle.refusals.specs.Results.{Passed}
use Rattle.refusals.specs.Tests.{lowest, against, after}
use Rattle.fields.specs.Records.{packed, values_of}
use Rattle.tables.specs.declared.packed.Grant.{Grant}
use Rattle.tables.specs.Tables.{head, head_of, count, cycle_of, frame_of, values_at, grant_at, spare_at, grants_from, grants_of, records, table_of}
use Rattle.tables.specs.Form.{headed, spared, formed, rises, test11, test12, form_tests}

-- starts 0 (flow 1), 1 (flow 2), 3 (flow 3), 6 (flow 1, late 2)
abbrev pub case_a : List Grant
case_a =
    record { flow = 1; start = 0; late = 0 }
    ∷ record { flow = 2; start = 1; late = 0 }
    ∷ record { flow = 3; start = 3; late = 0 }
    ∷ record { flow = 1; start = 6; late = 2 }
    ∷ []

-- with the cycle 8 and the frame 4, as bytes
abbrev pub table_a : List ℕ
table_a =
    0x12 ∷ 0x00 ∷ 0x00 ∷ 0x04 ∷ 0x00 ∷ 0x08 ∷ 0x00 ∷ 0x04
    ∷ 0x00 ∷ 0x40 ∷ 0x00 ∷ 0x00 ∷ 0x00
    ∷ 0x00 ∷ 0x80 ∷ 0x04 ∷ 0x00 ∷ 0x00
    ∷ 0x00 ∷ 0xC0 ∷ 0x0C ∷ 0x00 ∷ 0x00
    ∷ 0x00 ∷ 0x40 ∷ 0x18 ∷ 0x00 ∷ 0x80
    ∷ []

-- it is written, read and well formed
pub table_A : (table_of 8 4 case_a ≡ table_a) × (grants_of table_a ≡ case_a) × (cycle_of table_a ≡ 8) × (frame_of table_a ≡ 4) × (form_tests table_a ≡ Passed)
unfolding packed values_of head head_of count cycle_of frame_of values_at grant_at spare_at grants_from grants_of records table_of headed spared formed lowest against after rises test11 test12 form_tests
table_A = (refl, refl, refl, refl, refl)
