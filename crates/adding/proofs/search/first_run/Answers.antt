-- `adding::search::first_run` meets its contract.
-- Assumes nothing.
use Rattle.std.proofs.Common.{sym, ◌∙◌, arith}
use Rattle.adding.proofs.Runs.{run_found, run_taken, run_end}
use Rattle.adding.proofs.search.first_run.Goals as goal

pub returns-then-offset-size : goal.returns-then-offset-size
returns-then-offset-size c = run_found _ _ _ _ _ c.loop-offset.invariant.1 c.requires.0 c.loop-offset-test.true (omega arith)

pub loop-offset-preserved-then-marked : goal.loop-offset-preserved-then-marked
loop-offset-preserved-then-marked c = (omega arith, run_taken _ _ _ _ _ c.loop-offset.invariant.1 _ c.alike.ensures c.requires.0 (omega arith) (sym c.marked.ensures ∙ c.if-marked.true))

pub returns : goal.returns
returns c = run_end _ _ _ _ _ c.loop-offset.invariant.1 (omega arith)
