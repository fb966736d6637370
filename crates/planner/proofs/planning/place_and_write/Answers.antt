-- `planner::planning::place_and_write` meets its contract. Assumes nothing.
use Rattle.std.proofs.Common.{rules, length, ◌≡◌, ℕ, ◌+◌, ◌*◌, ◌/◌, Ok, Err, ap, ◌∙◌, arith}
use Rattle.refusals.specs.Answers.{answer, written}
use Rattle.lists.proofs.Records.{length-flows}
use Rattle.lists.specs.Lists.{flows_of}
use Rattle.lists.specs.Facts.{cycle, frame, grants, load}
use Rattle.lists.proofs.Cycle.{frame_pos}
use Rattle.planner.specs.Plan.{test10, plan_table}
use Rattle.planner.proofs.Answering.{facts_are, none_lawful, Standing, answer-refused, answer-standing, answer-written}
use Rattle.planner.proofs.planning.place_and_write.Goals as goal
use Rattle.planner.proofs.planning.place_and_write.Goals.{After-from_residual, After-from-width, After-write_grants, Start}

facts : (c : Start) → let f = c.args.facts in let fs = flows_of c.args.list.now in (f.cycle ≡ cycle fs) × (f.frame ≡ frame fs) × (f.grants ≡ grants fs) × (f.load ≡ load fs)
facts c = facts_are c.args.facts (flows_of c.args.list.now) c.requires.of_list

pub place_all-requires-clause-flows_fit : goal.place_all-requires-clause-flows_fit
place_all-requires-clause-flows_fit c = omega (arith, c.requires.accepted.few, length-flows c.args.list.now, ap length c.empty.ensures.order_value.1)

-- the refusal, and the room as it was
refused : (c : After-from_residual) → let l = c.args.list.now in let room = c.args.room.now in
    (c.from_residual.result ≡ answer (test10 (flows_of l)) (plan_table l) (length room)) × (room ≡ written (test10 (flows_of l)) (plan_table l) room)
refused c =
    let a = c.args in
    let p = c.place_all in
    let n = none_lawful p.result c.map_err.result c.in_err-map_err.field-0.0 c.map_err.ensures.cases c.in_err-map_err.was in
    let r : c.from_residual.result ≡ Err c.in_err-map_err.field-0.0 = search rules in
    rw (r, n.2) (answer-refused a.list.now a.room.now c.requires.accepted a.facts.frame (facts (goal.at.After-from_residual c).Start).1 p.new.contents p.new.limits p.new.frames p.new.bases p.result n.0 p.ensures.finished n.1)

pub returns-in_err-map_err-clause-value : goal.returns-in_err-map_err-clause-value
returns-in_err-map_err-clause-value c = (refused (goal.at.returns-in_err-map_err-clause-value c).After-from_residual).0

pub returns-in_err-map_err-clause-room_after : goal.returns-in_err-map_err-clause-room_after
returns-in_err-map_err-clause-room_after c = (refused (goal.at.returns-in_err-map_err-clause-room_after c).After-from_residual).1

pub nonzero_div-cycle : goal.nonzero_div-cycle
nonzero_div-cycle c = omega (arith, frame_pos (flows_of c.args.list.now) c.requires.accepted, (facts (goal.at.nonzero_div-cycle c).Start).1)

-- the layout that stands
standing : (c : After-from-width) → let a = c.args in let p = c.place_all in
    Standing a.list.now a.room.now c.requires.accepted a.facts.frame (facts (goal.at.After-from-width c).Start).1 p.new.contents p.new.limits p.new.frames p.new.bases c.from-width.result
standing c =
    let a = c.args in
    let p = c.place_all in
    let f = facts (goal.at.After-from-width c).Start in
    let ok : p.result ≡ Ok tt = search rules in
    answer-standing a.list.now a.room.now c.requires.accepted a.facts.frame f.1 p.new.contents p.new.limits p.new.frames p.new.bases p.result
    c.from-width.result p.ensures.finished ok (c.from-width.ensures ∙ ap (λ (x : ℕ). x / a.facts.frame) f.0)

pub write_grants-requires-clause-tabled : goal.write_grants-requires-clause-tabled
write_grants-requires-clause-tabled c = let S = standing (goal.at.write_grants-requires-clause-tabled c).After-from-width in (S.settled, S.tabled)

-- the table's length, and the table at the room's front
tabled : (c : After-write_grants) → let l = c.args.list.now in let room = c.args.room.now in
    (Ok (8 + 5 * c.args.facts.grants) ≡ answer (test10 (flows_of l)) (plan_table l) (length room)) × (c.write_grants.new.room ≡ written (test10 (flows_of l)) (plan_table l) room)
tabled c =
    let p = c.place_all in
    let a = c.args in
    let S = standing (goal.at.After-write_grants c).After-from-width in
    let f = facts (goal.at.After-write_grants c).Start in
    answer-written a.list.now a.room.now c.requires.accepted a.facts.frame f.1 p.new.contents p.new.limits p.new.frames p.new.bases
    c.from-width.result a.facts.cycle a.facts.grants c.write_head.new.room c.write_grants.new.room f.0 f.2 c.requires.roomy S
    c.write_head.ensures.room_after (c.write_grants.ensures S.settled S.tabled)

pub returns-clause-value : goal.returns-clause-value
returns-clause-value c = (tabled (goal.at.returns-clause-value c).After-write_grants).0

pub returns-clause-room_after : goal.returns-clause-room_after
returns-clause-room_after c = (tabled (goal.at.returns-clause-room_after c).After-write_grants).1
