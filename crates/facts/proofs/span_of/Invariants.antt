-- `facts::span_of` meets its contract.
-- Assumes nothing.
use Rattle.std.proofs.Common.{◌≤◌}
use Rattle.lists.specs.Lists.{flows_of}
use Rattle.facts.proofs.Turns.{SpanAt}
use Rattle.facts.proofs.span_of.Given as goal

abbrev pub invariant-loop-i : goal.invariant-loop-i
invariant-loop-i l = (l.cycle ≤ 65535) × SpanAt (flows_of l.list) l.i l.cycle l.frame
