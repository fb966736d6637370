-- `words::decimal::figures` meets its contract.
-- Assumes nothing.
use Rattle.std.proofs.Common.{arith, sym, ◌∙◌}
use Rattle.words.proofs.Whole.{figures-between, figures-width}
use Rattle.words.proofs.decimal.figures.Goals as goal

pub returns-then-v-lt10000 : goal.returns-then-v-lt10000
returns-then-v-lt10000 c = c.width.ensures ∙ sym (figures-width c.args.v c.if-v-lt10000.true)

pub returns-else-v-lt10000 : goal.returns-else-v-lt10000
returns-else-v-lt10000 c = sym (figures-between _ c.args.v c.ilog10.ensures.power_le c.ilog10.ensures.next_power_gt)
