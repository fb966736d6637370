-- `converting::calls::call_in` meets its contract.
-- Assumes nothing.
use Rattle.std.proofs.Common.{◌≡◌, length}
use Rattle.settings.specs.Runs.{items}
use Rattle.converting.specs.Parts.{heard}
use Rattle.converting.proofs.Hearing.{onward}
use Rattle.converting.proofs.calls.call_in.Given as goal

abbrev pub invariant-loop-rest : goal.invariant-loop-rest
invariant-loop-rest l = onward l.call (items l.rest) ≡ heard (items l.run)

abbrev pub decreases-loop-rest : goal.decreases-loop-rest
decreases-loop-rest l = length l.rest
