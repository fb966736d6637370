-- `finding::Index::fill` meets its contract.
-- Assumes nothing.
use Rattle.std.proofs.Common.{◌≡◌, ◌≤◌, length}
use Rattle.lists.specs.Lists.{count, flows_of}
use Rattle.finding.specs.Parts.{Noted}
use Rattle.finding.proofs.Index.fill.Given as goal

abbrev pub invariant-loop-i : goal.invariant-loop-i
invariant-loop-i l = (length l.self.firsts ≡ 256) × (length l.self.nexts ≡ 128) × (count l.list ≤ 128 → Noted (flows_of l.list) l.i l.self.firsts l.self.nexts)
