-- `checking::pair::Pair::record_of` meets its contract.
-- Assumes nothing.
use Rattle.checking.specs.Parts.{flows_in}
use Rattle.checking.proofs.Taken.{found_inside}
use Rattle.checking.proofs.pair.Pair.record_of.Goals as goal

pub returns-clause-inside : goal.returns-clause-inside
returns-clause-inside c =
    let pair = c.args.self.now in
    found_inside (flows_in pair) pair.sound.accepted.few c.args.number c.record_of.result (c.record_of.ensures pair.sound.indexed)
