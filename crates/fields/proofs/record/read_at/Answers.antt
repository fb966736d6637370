-- `fields::record::read_at` meets its contract.
-- Assumes nothing.
use native.Mathlib.Omega.{arith}
use Rattle.std.proofs.Common.{◌∙◌}
use Rattle.fields.specs.Kinds.{place}
use Rattle.fields.proofs.Places.{reads_beyond, reads_part}
use Rattle.fields.proofs.record.read_at.Goals as goal

pub returns-in_err-place : goal.returns-in_err-place
returns-in_err-place c = rw c.from_residual.ensures (reads_beyond c.args.kind (place c.args.kind c.args.i) c.args.bytes.now (omega (arith, c.in_err-place.ensures)))

pub returns-in_err-get : goal.returns-in_err-get
returns-in_err-get c =
    rw c.from_residual-in_err-get.ensures
    (reads_beyond c.args.kind (place c.args.kind c.args.i) c.args.bytes.now (omega (arith, c.in_ok-place.ensures, c.in_err-get.ensures.lookup)))

pub returns : goal.returns
returns c =
    let at = c.in_ok-place.ensures in
    let part = c.in_ok-get.ensures.lookup.0 in
    c.read.ensures
    ∙ rw part.2 (rw at.0 (reads_part c.args.kind (place c.args.kind c.args.i) c.args.bytes.now (omega (arith, at, part.1)) _ (omega (arith, at))))
