-- `words::decimal::put_number` meets its contract.
-- Assumes nothing.
use Rattle.std.proofs.Common.{sym}
use Rattle.words.proofs.Decimals.{digits_is}
use Rattle.words.proofs.decimal.put_number.Goals as goal

pub returns : goal.returns
returns c =
    let e = digits_is c.args.v _ c.width.ensures in
    record { value = rw (c.from.ensures, e) at c.put_digits.ensures.value; room_after = rw (c.from.ensures, e) at c.put_digits.ensures.room_after }
