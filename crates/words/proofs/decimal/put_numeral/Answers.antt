-- `words::decimal::put_numeral` meets its contract.
-- Assumes nothing.
use Rattle.words.proofs.Whole.{numeral_is}
use Rattle.words.proofs.decimal.put_numeral.Goals as goal

pub returns : goal.returns
returns c =
    let e = numeral_is c.args.v _ c.figures.ensures in
    record { value = rw e at c.put_digits.ensures.value; room_after = rw e at c.put_digits.ensures.room_after }
