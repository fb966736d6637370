-- `finding::Index::record_of` meets its contract.
-- Assumes nothing.
use Rattle.std.proofs.Common.{◌≡◌, ◌-◌, ◌<◌, ℕ, Some}
use Rattle.lists.specs.Lists.{flows_of}
use Rattle.finding.specs.Parts.{Indexed}
use Rattle.finding.proofs.Records.{Sought, place}
use Rattle.finding.proofs.Index.record_of.Given as goal

abbrev pub invariant-loop-next : goal.invariant-loop-next
invariant-loop-next l = record {
  below : (k : ℕ) → l.next ≡ Some k → k < 128;
  sought : Indexed (flows_of l.list) l.self → Sought (flows_of l.list) l.number l.next;
}

abbrev pub decreases-loop-next : goal.decreases-loop-next
decreases-loop-next l = 128 - place l.next
