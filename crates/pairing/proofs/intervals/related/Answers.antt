-- `pairing::intervals::related` meets its contract.
-- Assumes nothing.
use Rattle.std.proofs.Common.{rules}
use Rattle.lists.specs.Facts.{related}
use Rattle.pairing.proofs.intervals.related.Goals as goal

pub returns : goal.returns
unfolding related
returns c = search rules
