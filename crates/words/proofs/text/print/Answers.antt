-- `words::text::print` meets its contract.
-- Assumes nothing.
use Rattle.std.proofs.Common.{refl, arith}
use Rattle.words.proofs.Prints.{prints_put}
use Rattle.words.proofs.text.print.Goals as goal

pub returns-clause-printed : goal.returns-clause-printed
returns-clause-printed c = prints_put _ _ _ _ _ _ refl (omega arith) c.saturating_add.ensures c.put.ensures.room_after
