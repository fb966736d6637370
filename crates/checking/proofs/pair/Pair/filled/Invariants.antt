-- `checking::pair::Pair::filled` meets its contract.
-- Assumes nothing.
use Rattle.std.proofs.Common.{ℕ, ◌+◌, ◌<◌, get_or}
use Rattle.flows.specs.Flows.{no_flow}
use Rattle.checking.specs.Parts.{flows_in}
use Rattle.checking.proofs.pair.Pair.filled.Given as goal

abbrev pub invariant-loop-i : goal.invariant-loop-i
invariant-loop-i l = ((k : ℕ) → k < l.i → l.self.cycle < get_or l.cells k 0 + (get_or (flows_in l.self) k no_flow).interval)
