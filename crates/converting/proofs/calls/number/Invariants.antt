-- `converting::calls::number` meets its contract.
-- Assumes nothing.
use Rattle.std.proofs.Common.{◌≡◌, ◌^◌, ◌<◌, drop}
use Rattle.settings.specs.Encodings.{number, number_from}
use Rattle.converting.proofs.calls.number.Given as goal

abbrev pub invariant-loop-b : goal.invariant-loop-b
invariant-loop-b l =
    record { small : l.v < 256 ^ l.b-index; left : number_from l.v (drop l.b-index l.value) ≡ number l.value }
