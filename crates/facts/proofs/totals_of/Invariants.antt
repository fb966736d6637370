-- `facts::totals_of` meets its contract.
-- Assumes nothing.
use Prim.Native.Nat.{◌*◌}
use Rattle.lists.specs.Lists.{flows_of}
use Rattle.lists.specs.Facts.{occupies, grants_of}
use Rattle.facts.proofs.Turns.{SumAt}
use Rattle.facts.proofs.totals_of.Given as goal

abbrev pub invariant-loop-i : goal.invariant-loop-i
invariant-loop-i l = SumAt (grants_of l.cycle) 65535 (flows_of l.list) l.i l.grants × SumAt (λ f. occupies f * grants_of l.cycle f) (65535 * 65535) (flows_of l.list) l.i l.load
