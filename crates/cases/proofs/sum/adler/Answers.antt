use Rattle.std.proofs.Common.{sym, ◌∙◌, arith}
use Rattle.cases.proofs.Sums.{adler-start, adler-next, adler_end}
use Rattle.cases.proofs.sum.adler.Goals as goal

pub loop-x-init : goal.loop-x-init
loop-x-init c = record { low = omega arith; high = omega arith; sums = adler-start c.args.s.now }

pub loop-x-preserved : goal.loop-x-preserved
loop-x-preserved c =
    let l = c.loop-x in
    record { low = omega arith; high = omega arith; sums = rw c.from.ensures (sym (adler-next l.a l.b c.args.s.now l.x-index (omega arith))) ∙ l.invariant.sums }

pub returns : goal.returns
returns c = let l = c.loop-x in sym (adler_end l.a l.b c.args.s.now l.x-index (omega arith)) ∙ l.invariant.sums
