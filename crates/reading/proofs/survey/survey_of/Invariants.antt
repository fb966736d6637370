-- `reading::survey::survey_of` meets its contract.
-- Assumes nothing.
use mathlib.Core.Path.{◌≡◌}
use Prim.Native.Nat.{◌-◌}
use lib.ListN.{length}
use Rattle.refusals.specs.Results.{Passed}
use Rattle.sheets.specs.Tests.{sheet_tests}
use Rattle.sheets.proofs.Looks.{LookAt}
use Rattle.sheets.proofs.Packing.{PackAt}
use Rattle.reading.proofs.survey.survey_of.Given as goal

abbrev pub invariant-loop-at : goal.invariant-loop-at
invariant-loop-at l = LookAt l.sheet l.at l.n l.rules × (length l.list ≡ length l.initial.list) × (sheet_tests l.sheet ≡ Passed → PackAt l.sheet l.initial.list l.at l.n l.list)

abbrev pub decreases-loop-at : goal.decreases-loop-at
decreases-loop-at l = length l.sheet - l.at
