-- `words::number::formed` meets its contract.
-- Assumes nothing.
use Rattle.std.proofs.Common.{arith, sym}
use Rattle.words.proofs.Numbers.{formed-none, formed-one, formed_zero, formed_rest}
use Rattle.words.proofs.number.formed.Goals as goal

pub returns-in-empty : goal.returns-in-empty
returns-in-empty c = sym (formed-none c.args.digits.now (omega arith))

pub returns-in-len1 : goal.returns-in-len1
returns-in-len1 c = sym (formed-one c.args.digits.now (omega arith))

pub returns-in-48 : goal.returns-in-48
returns-in-48 c = sym (formed_zero c.args.digits.now (omega arith) (omega arith))

pub returns-in_default : goal.returns-in_default
returns-in_default c = sym (formed_rest c.args.digits.now (omega arith) (λ e. omega arith))
