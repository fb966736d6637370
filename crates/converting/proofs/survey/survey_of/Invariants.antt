-- `converting::survey::survey_of` meets its contract.
-- Assumes nothing.
use Rattle.std.proofs.Common.{◌≡◌, length}
use Rattle.refusals.specs.Results.{Passed}
use Rattle.settings.specs.Slots.{channel}
use Rattle.converting.specs.Parts.{read_tests}
use Rattle.converting.proofs.Looking.{LookAt, PackAt}
use Rattle.converting.proofs.survey.survey_of.Given as goal

abbrev pub invariant-loop-rest : goal.invariant-loop-rest
invariant-loop-rest l =
    let ch = channel l.slot.microseconds l.slot.bytes in
    record {
      look : LookAt ch l.settings l.rest l.k l.n l.missing l.uneven l.rules;
      pack : read_tests ch l.settings ≡ Passed → PackAt ch l.settings l.initial.list l.rest l.n l.list;
    }

abbrev pub decreases-loop-rest : goal.decreases-loop-rest
decreases-loop-rest l = length l.rest
