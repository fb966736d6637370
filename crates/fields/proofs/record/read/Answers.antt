-- `fields::record::read` meets its contract.
-- Assumes nothing.
use native.Mathlib.Omega.{arith}
use Rattle.fields.proofs.Widths.{narrow}
use Rattle.fields.proofs.Records.{reading_short, reading-whole}
use Rattle.fields.proofs.record.read.Goals as goal

pub returns-in_err-record : goal.returns-in_err-record
returns-in_err-record c = rw c.from_residual.ensures (reading_short c.args.kind c.args.s.now (omega (arith, c.in_err-record.ensures.lookup)))

pub values-requires : goal.values-requires
values-requires c = rw c.widths.ensures (narrow c.args.kind)

pub returns : goal.returns
returns c =
    let part = c.in_ok-record.ensures.lookup.0 in
    reading-whole c.args.kind c.args.s.now c.bytes.result c.in_ok-record.record.now c.widths.result c.number-n.result c.values.result
    c.bytes.ensures part.1 part.2 c.number-n.ensures c.widths.ensures c.values.ensures
