-- `texts::plan::print_plan` meets its contract.
-- Assumes nothing.
use Rattle.words.proofs.Prints.{prints_then}
use Rattle.lists.specs.Facts.{facts_of}
use Rattle.tables.specs.Tables.{grants_of}
use Rattle.texts.specs.Texts.{plan_text}
use Rattle.texts.proofs.plan.print_plan.Goals as goal

pub returns : goal.returns
unfolding plan_text grants_of facts_of
returns c =
    let head = rw (c.cycle.ensures, c.frame.ensures, c.count-n.ensures, c.facts_of-load.ensures) at c.print_head-at.ensures in
    let grants = rw c.count-n.ensures at c.print_grants.ensures in
    prints_then _ _ _ _ _ _ _ _ head grants
