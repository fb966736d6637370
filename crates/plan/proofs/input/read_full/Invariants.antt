use Rattle.std.proofs.Common.{◌-◌, ◌≤◌, length, take}
use Rattle.std.specs.Io.KnownBytes.{Consumes}
use Rattle.plan.proofs.input.read_full.Given as goal

abbrev pub invariant-loop-n : goal.invariant-loop-n
invariant-loop-n g l = record {
  fits : l.n ≤ length l.room;
  bytes : Consumes (g.R.Read.remaining l.initial.from) (g.R.Read.remaining l.from) (take l.n l.room);
}

abbrev pub decreases-loop-n : goal.decreases-loop-n
decreases-loop-n g l = length l.initial.room - l.n
