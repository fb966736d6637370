-- `adding::search::slots_of` meets its contract.
-- Assumes nothing.
use Rattle.std.proofs.Common.{rules}
use Rattle.adding.proofs.Found.{slots_found}
use Rattle.adding.proofs.search.slots_of.Goals as goal

pub returns : goal.returns
returns c = slots_found c.args.list.now c.args.grant c.record_of.result _ (c.record_of.ensures c.requires) (search rules)
