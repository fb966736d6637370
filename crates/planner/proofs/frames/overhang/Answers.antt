-- `planner::frames::overhang` meets its contract. Assumes nothing.
use Rattle.std.proofs.Common.{arith}
use Rattle.planner.proofs.Starts.{reached_front, reached_next}
use Rattle.planner.proofs.frames.overhang.Goals as goal
use Rattle.planner.proofs.frames.overhang.Goals.{then-from-k, else-from-k}

pub loop-j-init : goal.loop-j-init
loop-j-init c =
    elim c.if-from-k.branch [
      | then-from-k w ↦ rw w.start-is c.requires.reached
      | else-from-k w ↦ rw w.start-is (reached_front c.args.frame c.args.contents.now)
    ]

pub loop-j-preserved : goal.loop-j-preserved
loop-j-preserved c =
    let v = c.loop-j in
    reached_next c.args.frame c.args.contents.now v.j v.over (omega arith) v.invariant c.past-over.result (omega (arith, c.type_inv.contents v.j)) (omega arith)
