-- `checking::pair::Pair::passes` meets its contract.
-- Assumes nothing.
use Rattle.checking.specs.Parts.{flows_in, grants_in}
use Rattle.checking.proofs.Clean.{clean-passes}
use Rattle.checking.proofs.pair.Pair.passes.Goals as goal

pub returns-then-faultless : goal.returns-then-faultless
returns-then-faultless c =
    let pair = c.args.self.now in
    let ok = c.faultless.ensures c.if-faultless.true in
    λ e. clean-passes (flows_in pair) pair.sound.accepted (grants_in pair) c.faultless.new.cells ok.0 ok.1 (c.filled.ensures e)
