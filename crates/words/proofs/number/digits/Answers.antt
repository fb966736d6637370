-- `words::number::digits` meets its contract.
-- Assumes nothing.
use Rattle.std.proofs.Common.{arith, sym, ◌∙◌}
use Rattle.words.proofs.Numbers.{read_next, read_stop, read-end}
use Rattle.words.proofs.number.digits.Goals as goal

pub returns-then-not-is_ascii_digit : goal.returns-then-not-is_ascii_digit
returns-then-not-is_ascii_digit c =
    let v = c.loop-b in
    let whole = read_stop c.args.s.now v.b-index v.v v.invariant.1 (sym c.is_ascii_digit.ensures.value ∙ c.if-not-is_ascii_digit.true) (omega arith) in record { number = whole.0; count = omega (arith, v.invariant.0, whole.1) }

pub loop-b-preserved : goal.loop-b-preserved
loop-b-preserved c =
    let v = c.loop-b in
    let more = read_next c.args.s.now v.b-index v.v v.invariant.1 (sym c.is_ascii_digit.ensures.value ∙ c.if-not-is_ascii_digit.false) c.requires (omega arith) in
    (omega (arith, v.invariant.0), rw c.from.ensures more.2)

pub returns : goal.returns
returns c =
    let v = c.loop-b in
    let whole = read-end c.args.s.now v.b-index v.v v.invariant.1 (omega arith) in record { number = whole.0; count = omega (arith, v.invariant.0, whole.1) }
