-- Document 01: "Sheet to list tests 20, 3, 4, 9." Assumes nothing.
use Rattle.std.specs.Prelude.{ℕ, List, map, length, Ok, Err}
use Rattle.refusals.specs.declared.Refusal.TheVariants.{Line as AtLine}
use Rattle.refusals.specs.Results.{Checked, Written}
use Rattle.refusals.specs.Tests.{◌⟫◌, lowest}
use Rattle.lists.specs.Tests.{test3, test4}
use Rattle.sheets.specs.Readings.{of_form, readings, flows_in}

-- 20: a sheet line not of the form
unfoldable pub test20 : List ℕ → Checked
test20 s = lowest AtLine 1 (map of_form (readings s))

-- tests 20, 3 and 4, in their order
unfoldable pub sheet_tests : List ℕ → Checked
sheet_tests s = test20 s ⟫ test3 (length (flows_in s)) ⟫ test4 (flows_in s)

-- how many lines there are where the tests pass
abbrev pub counted : Checked → ℕ → Written
counted (Ok tt) n = Ok n
counted (Err r) n = Err r

-- what looking through the sheet finds: how many lines it has, or the first refusal
unfoldable pub survey_of : List ℕ → Written
survey_of s = counted (sheet_tests s) (length (flows_in s))
