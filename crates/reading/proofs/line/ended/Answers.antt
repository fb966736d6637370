-- `reading::line::ended` meets its contract.
-- Assumes nothing.
use Rattle.std.proofs.Common.{arith, sym, ◌∙◌}
use Rattle.logic.proofs.Parts.{part_to_end}
use Rattle.sheets.proofs.Readings.{ended_beyond, ended_is}
use Rattle.reading.proofs.line.ended.Goals as goal

pub returns-in_err-get : goal.returns-in_err-get
returns-in_err-get c = c.from_residual.ensures ∙ sym (ended_beyond c.args.sheet.now c.args.at c.args.f (omega (arith, c.in_err-get.ensures.lookup)))

pub returns : goal.returns
returns c = c.then_some.ensures ∙ rw c.begins.ensures (rw c.in_ok-get.ensures.lookup.0.2 (rw part_to_end (sym (ended_is c.args.sheet.now c.args.at c.args.f))))
