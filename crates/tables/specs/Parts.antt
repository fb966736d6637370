-- The two parts in which the code makes tests 11 and 12. Assumes nothing.
use Rattle.std.specs.Prelude.{Bool, ◌&&◌, List, ℕ, leb, eqb, length}
use Rattle.logic.specs.Numbers.{among}
use Rattle.refusals.specs.declared.Refusal.TheVariants.{TableForm}
use Rattle.refusals.specs.Results.{Checked}
use Rattle.refusals.specs.Tests.{◌⟫◌, unless}
use Rattle.tables.specs.Tables.{count, place, grants_from}
use Rattle.tables.specs.Form.{headed, spared, test12}

-- what test 11 asks but for the records' spare bits
unfoldable pub whole : List ℕ → Bool
whole t = leb 8 (length t) && (headed t && (among 1 1024 (count t) && eqb (length t) (place (count t))))

-- what tests 11 and 12 ask of n records
unfoldable pub record_tests : List ℕ → ℕ → Checked
record_tests t n = unless (spared t 0 n) TableForm ⟫ test12 (grants_from t 0 n)
