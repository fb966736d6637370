-- `planner::search::first_lawful` meets its contract. Assumes nothing.
use Rattle.std.proofs.Common.{◌≡◌, ◌+◌, false, drop, ◌∙◌, arith, rules}
use Rattle.std.proofs.lemmas.List.{take_rest}
use Rattle.std.proofs.lemmas.Grind.{common_steps}
use Rattle.planner.specs.Cells.{Starts, opens, runs}
use Rattle.planner.proofs.Runs.{opens_full, opens-room, runs_end}
use Rattle.planner.proofs.Starts.{starts-next}
use Rattle.planner.proofs.search.first_lawful.Goals as goal
use Rattle.planner.proofs.search.first_lawful.Goals.{then-filled-from+else-push-eq0+in_default-next, then-filled-from+else-push-eq0+in-Some-next+then-push-from, else-filled-from}

pub loop-push-init : goal.loop-push-init
loop-push-init c =
    let a = c.args in
    opens-room a.contents.now a.limits.now c.requires.same_length.0 a.frame c.in-Some.k (omega (arith, c.in-Some.ensures.steps)) a.size c.frames.over (omega arith)
    ∙ grind (arith, common_steps, take_rest)

pub frames-preserved : goal.frames-preserved
unfolding runs
frames-preserved c =
    let a = c.args in
    let cs = a.contents.now in
    let ls = a.limits.now in
    let over = c.frames.over in
    let k = c.in-Some.k in
    let inside = c.in-Some.ensures.steps in
    let shut : opens a.frame a.size over (drop k cs) (drop k ls) ≡ false =
    elim c.if-filled-from.branch [
      | then-filled-from+else-push-eq0+in_default-next w ↦ w.loop-push.invariant ∙ search (rules, runs_end)
      | then-filled-from+else-push-eq0+in-Some-next+then-push-from w ↦ w.loop-push.invariant ∙ search rules
      | else-filled-from w ↦ opens_full cs ls c.requires.same_length.0 a.frame k (omega (arith, inside)) a.size over (omega arith)
    ] in
    let here : c.frames.frames.start ≡ k = omega (arith, inside) in
    let next : c.next.new.self.start ≡ k + 1 = omega (arith, inside) in
    let starts : Starts a.frame a.size cs ls k over = rw here at c.frames.invariant.1 in (
      omega (arith, inside, c.frames.invariant.0),
      rw next (starts-next a.frame cs ls a.size k over starts (omega (arith, inside)) shut _ (omega (arith, c.type_inv.contents k)) (omega arith)),
    )
