-- Windows of document 01's case A, computed from the definitions. Assumes nothing.
use Rattle.std.proofs.Common.{◌≡◌, refl, List, [], ◌∷◌, ℕ, take, drop}
use Rattle.logic.specs.Lists.{All}
use Rattle.refusals.specs.declared.Refusal.TheVariants.{WindowEnds}
use Rattle.refusals.specs.Results.{Checked, Passed, Refused}
use Rattle.refusals.specs.Tests.{lowest, against, after}
use Rattle.fields.specs.Records.{packed, values_of}
use Rattle.tables.specs.Tables.{head, head_of, count, cycle_of, frame_of, values_at, grant_at, spare_at, grants_from, grants_of, records, table_of}
use Rattle.tables.specs.Form.{headed, spared, formed, rises, test11, test12, form_tests}
use Rattle.tables.proofs.Cases.{case_a, table_a}
use Rattle.windows.specs.Window.{test19, window_tests, before, starting_in, edge}

-- their ends, what the tests say, and the bytes between which the stretch stands
abbrev windows : List (ℕ × ℕ × Checked × ℕ × ℕ)
windows =
    (0, 8, Passed, 8, 28)
    ∷ (1, 6, Passed, 13, 23)
    ∷ (4, 6, Passed, 23, 23)
    ∷ (7, 8, Passed, 28, 28)
    ∷ (0, 9, Refused WindowEnds, 0, 0)
    ∷ (5, 4, Refused WindowEnds, 0, 0)
    ∷ []

pub windows_A : All (λ w. (window_tests table_a w.0 w.1 ≡ w.2) × (edge w.2 table_a w.0 ≡ w.3) × (edge w.2 table_a w.1 ≡ w.4)) windows
unfolding packed values_of head head_of count cycle_of frame_of values_at grant_at spare_at grants_from grants_of records table_of headed spared formed lowest against after rises test11 test12 form_tests test19 window_tests before edge
windows_A = ((refl, refl, refl), ((refl, refl, refl), ((refl, refl, refl), ((refl, refl, refl), ((refl, refl, refl), ((refl, refl, refl), tt))))))

-- the grants that start in a window
pub starting_A : (starting_in 1 6 case_a ≡ take 2 (drop 1 case_a)) × (starting_in 4 6 case_a ≡ [])
unfolding starting_in
starting_A = (refl, refl)
