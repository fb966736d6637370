-- `planner::groups::add_group` meets its contract. Assumes nothing.
use Rattle.std.proofs.Common.{rules, ◌≡◌, ℕ, length, Err, ◌∙◌, arith}
use Rattle.lists.proofs.Records.{length-flows}
use Rattle.lists.specs.Lists.{flows_of}
use Rattle.planner.specs.Order.{Group}
use Rattle.planner.proofs.Closing.{Leaves, left_inside, left_low, added-refused, added-all}
use Rattle.planner.proofs.Turns.{inside_at}
use Rattle.planner.proofs.Housing.{taken}
use Rattle.planner.proofs.groups.add_group.Goals as goal
use Rattle.planner.proofs.groups.add_group.Goals.{After-place_group}

-- what the placed group leaves
leaves : (c : After-place_group) (n : ℕ) → let a = c.args in Group a.list.now a.group.now n → Leaves a.frame n a.width (flows_of a.list.now) a.contents.now a.limits.now a.frames.now a.bases.now
    c.repeat.new.cells c.repeat-2.new.cells c.place_group.new.contents c.place_group.new.frames c.place_group.result
leaves c n g =
    record {
      many = omega (arith, length-flows c.args.list.now);
      many' = omega (arith, length-flows c.args.list.now);
      copied = c.repeat.ensures;
      copied' = c.repeat-2.ensures;
      laid = c.place_group.ensures n g;
    }

pub returns-in_err-place_group-clause-added : goal.returns-in_err-place_group-clause-added
returns-in_err-place_group-clause-added c = λ n g.
    let p = c.in_err-place_group.field-0.0 in
    let r : c.from_residual.result ≡ Err p = search rules in
    rw r (added-refused (leaves (goal.at.returns-in_err-place_group-clause-added c).After-place_group n g) p _ _ _ c.in_err-place_group.was)

pub settle_group-requires-clause-placed : goal.settle_group-requires-clause-placed
settle_group-requires-clause-placed c =
    let a = c.args in
    let n = c.requires.ready.0 in
    let r = c.requires.ready.2 in
    let L = leaves (goal.at.settle_group-requires-clause-placed c).After-place_group n c.requires.ready.1 in (
      n,
      c.requires.ready.1,
      λ i h e. rw (c.place_group.auto.contents ∙ c.repeat.auto.cells) (inside_at a.list.now n (length a.contents.now) c.place_group.new.frames (left_inside L r.0 r.1 r.2 c.in_ok-place_group.was) i h e),
    )

pub settle_group-requires-clause-overhangs_fit : goal.settle_group-requires-clause-overhangs_fit
settle_group-requires-clause-overhangs_fit c =
    let r = c.requires.ready.2 in
    left_low (leaves (goal.at.settle_group-requires-clause-overhangs_fit c).After-place_group c.requires.ready.0 c.requires.ready.1) r.0 r.1 r.2 c.in_ok-place_group.was

pub returns-clause-added : goal.returns-clause-added
returns-clause-added c = λ n g. added-all (leaves (goal.at.returns-clause-added c).After-place_group n g) _ _ c.in_ok-place_group.was (c.settle_group.ensures n g)

pub returns-clause-taken : goal.returns-clause-taken
returns-clause-taken c = λ n g r z.
    let L = leaves (goal.at.returns-clause-taken c).After-place_group n g in
    taken c.args.list.now c.args.frame n (length c.args.contents.now) _ _ _ _ _ _ (c.place_group.ensures n g) (left_inside L r.0 r.1 r.2 c.in_ok-place_group.was)
