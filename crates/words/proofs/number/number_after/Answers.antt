-- `words::number::number_after` meets its contract.
-- Assumes nothing.
use Rattle.std.proofs.Common.{◌≡◌, arith, drop, sym, ◌∙◌}
use Rattle.words.proofs.Numbers.{after_beyond, after_none, after-found, after-le}
use Rattle.logic.proofs.Parts.{part_to_end}
use Rattle.words.specs.Words.{starts}
use Rattle.words.proofs.number.number_after.Goals as goal
use Rattle.words.proofs.number.number_after.Goals.{After-begins}

-- the test is of the text from the place on
tested : (c : After-begins) → c.begins.result ≡ starts c.args.w.now (drop c.args.at c.args.s.now)
tested c = rw part_to_end at (rw c.in_ok-get.ensures.lookup.0.2 at c.begins.ensures)

pub returns-in_err-get : goal.returns-in_err-get
returns-in_err-get c = c.from_residual.ensures ∙ after_beyond c.args.s.now c.args.w.now c.args.at (omega (arith, c.in_err-get.ensures.lookup))

pub returns-then-not-begins : goal.returns-then-not-begins
returns-then-not-begins c = after_none _ _ c.args.at (sym (tested (goal.at.returns-then-not-begins c).After-begins) ∙ c.if-not-begins.true)

pub number_at-requires : goal.number_at-requires
number_at-requires c = after-le c.args.s.now c.args.w.now c.args.at c.in_ok-get.ensures.lookup.0.0 (sym (tested (goal.at.number_at-requires c).After-begins) ∙ c.if-not-begins.false)

pub returns : goal.returns
returns c = c.number_at.ensures ∙ after-found _ _ c.args.at (sym (tested (goal.at.returns c).After-begins) ∙ c.if-not-begins.false)
