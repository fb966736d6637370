-- `texts::plan::print_grants` meets its contract.
-- Assumes nothing.
use Rattle.std.proofs.Common.{arith}
use Rattle.words.proofs.Prints.{prints_none, prints_then}
use Rattle.texts.proofs.Printing.{lines_none, lines_next}
use Rattle.texts.proofs.plan.print_grants.Goals as goal

pub loop-i-init : goal.loop-i-init
loop-i-init c = rw (lines_none c.args.table.now) (prints_none _ _ (omega arith))

pub loop-i-preserved : goal.loop-i-preserved
loop-i-preserved c =
    rw (lines_next _ _ _ c.grant_at.ensures) (prints_then _ _ _ _ _ _ _ _ c.loop-i.invariant c.print_grant-at.ensures)
