-- `words::number::digits` meets its contract.
-- Assumes nothing.
use Rattle.std.proofs.Common.{◌≡◌}
use Rattle.words.proofs.Numbers.{ReadTo}
use Rattle.words.proofs.number.digits.Given as goal

abbrev pub invariant-loop-b : goal.invariant-loop-b
invariant-loop-b l = (l.n ≡ l.b-index) × ReadTo l.s l.b-index l.v
