-- `printing::print::print_lines` meets its contract.
-- Assumes nothing.
use Rattle.std.proofs.Common.{sym, ◌∙◌, arith, drop}
use Rattle.flows.proofs.Flows.{flow_digits}
use Rattle.words.proofs.Prints.{prints_none, prints_then}
use Rattle.lists.specs.Lists.{place, flow_at}
use Rattle.sheets.proofs.Printing.{text_start, text_next, flows_of_lem}
use Rattle.printing.proofs.print.print_lines.Goals as goal

pub loop-i-init : goal.loop-i-init
loop-i-init c = rw (text_start c.args.list.now) (prints_none _ _ (omega arith))

pub print_line-at-requires : goal.print_line-at-requires
unfolding flow_at
print_line-at-requires c = rw c.flow_at.ensures (flow_digits (drop (place c.loop-i.i) c.args.list.now))

pub loop-i-preserved : goal.loop-i-preserved
loop-i-preserved c =
    rw (text_next _ _ _ c.flow_at.ensures) (prints_then _ _ _ _ _ _ _ _ c.loop-i.invariant c.print_line-at.ensures)

pub returns : goal.returns
returns c = rw (← flows_of_lem c.args.list.now c.loop-i.i (omega (arith, c.count-i-end.ensures.0))) c.loop-i.invariant
