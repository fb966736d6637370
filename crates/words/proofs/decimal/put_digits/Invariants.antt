-- `words::decimal::put_digits` meets its contract.
-- Assumes nothing.
use Rattle.std.proofs.Common.{◌≡◌, length}
use lib.Seq.{sets}
use Rattle.words.specs.Decimals.{digits}
use Rattle.words.proofs.decimal.put_digits.Given as goal

abbrev pub invariant-loop-j : goal.invariant-loop-j
invariant-loop-j l = (length l.room ≡ length l.initial.room) × (sets l.room l.at (digits l.j l.left) ≡ sets l.initial.room l.at (digits l.k l.v))
