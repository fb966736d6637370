use Rattle.std.proofs.Common.{refl, arith}
use Rattle.plan.proofs.Filling.{read_more}
use Rattle.plan.proofs.input.read_full.Goals as goal

pub loop-n-preserved : goal.loop-n-preserved
loop-n-preserved g c =
    let i = c.loop-n.invariant in
    record {
      fits = omega (arith, c.in_ok-k.ensures.bound.0);
      bytes = read_more _ _ _ c.loop-n.room c.read.new.buf _ c.loop-n.n _ i.fits i.bytes c.in_ok-k.k refl c.in_ok-k.ensures.bound.0 c.in_ok-k.ensures.bytes.0;
    }

pub returns-in-0-clause-bytes : goal.returns-in-0-clause-bytes
returns-in-0-clause-bytes g c =
    let i = c.loop-n.invariant in
    read_more _ _ _ c.loop-n.room c.read.new.buf _ c.loop-n.n _ i.fits i.bytes c.in_ok-k.k (omega arith) c.in_ok-k.ensures.bound.0 c.in_ok-k.ensures.bytes.0
