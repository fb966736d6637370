-- `adding::adding::live_add` meets its contract.
-- Assumes nothing.
use Rattle.std.proofs.Common.{Ok, true, ◌≡◌, ◌+◌, ◌/◌, ◌≤◌, sym, ap, ◌∙◌, ◌<◌, ℕ, length, arith, Option, ok_or}
use Rattle.refusals.specs.declared.Refusal.TheVariants.{NoOffset}
use Rattle.flows.specs.Flows.{new_flow, keeps}
use Rattle.refusals.specs.Results.{Passed}
use Rattle.lists.specs.Lists.{flows_of}
use Rattle.lists.specs.Tests.{tests1to4}
use Rattle.tables.specs.Tables.{count, cycle_of, place}
use Rattle.offsets.specs.Adding.{list_bytes, add_answer}
use Rattle.adding.specs.Parts.{Joins}
use Rattle.adding.proofs.Answering.{check_refuses, record_refuses, later_refuses, offset_refuses, joins, offset_answers, stays, may_write, list_after, table_after}
use Rattle.adding.proofs.adding.live_add.Goals as goal
use Rattle.adding.proofs.adding.live_add.Goals.{Start, In_ok-flow, In_ok-later_tests, In_ok-offset}

pub returns-in_err-check_and_index : goal.returns-in_err-check_and_index
returns-in_err-check_and_index c =
    let a = c.args in
    let e = check_refuses a.list.now a.table.now (new_flow a.number a.size a.interval a.jitter) (length a.list_room.now) (length a.table_room.now) _ (sym c.in_err-check_and_index.ensures.value) in
    let s = stays _ _ _ a.list_room.now a.table_room.now _ e in
    record { value = grind arith; list_room_after = s.0; table_room_after = s.1 }

pub returns-in_err-flow : goal.returns-in_err-flow
returns-in_err-flow c =
    let a = c.args in
    let e = record_refuses a.list.now a.table.now (new_flow a.number a.size a.interval a.jitter) (length a.list_room.now) (length a.table_room.now) (sym c.in_ok-check_and_index.ensures.value) _ (sym c.in_err-flow.ensures) in
    let s = stays _ _ _ a.list_room.now a.table_room.now _ e in
    record { value = grind arith; list_room_after = s.0; table_room_after = s.1 }

pub returns-in_err-later_tests : goal.returns-in_err-later_tests
returns-in_err-later_tests c =
    let a = c.args in
    let e = later_refuses a.list.now a.table.now (new_flow a.number a.size a.interval a.jitter) (length a.list_room.now) (length a.table_room.now) (sym c.in_ok-check_and_index.ensures.value) _ (sym c.in_ok-flow.ensures) _ (sym c.in_err-later_tests.ensures) in
    let s = stays _ _ _ a.list_room.now a.table_room.now _ e in
    record { value = grind arith; list_room_after = s.0; table_room_after = s.1 }

-- all tests before 22 pass
joined : (c : In_ok-later_tests) → Joins c.args.list.now c.args.table.now c.in_ok-flow.flow
joined c =
    let a = c.args in
    joins a.list.now a.table.now (new_flow a.number a.size a.interval a.jitter) (length a.list_room.now) (length a.table_room.now) (sym c.in_ok-check_and_index.ensures.value) _ (sym c.in_ok-flow.ensures) (sym c.in_ok-later_tests.ensures)

pub first_offset-requires : goal.first_offset-requires
first_offset-requires c = (c.check_and_index.ensures.indexed c.in_ok-check_and_index.was, joined (goal.at.first_offset-requires c).In_ok-later_tests)

pub returns-in_err-offset : goal.returns-in_err-offset
returns-in_err-offset c =
    let a = c.args in
    let e = offset_refuses a.list.now a.table.now (new_flow a.number a.size a.interval a.jitter) (length a.list_room.now) (length a.table_room.now) (sym c.in_ok-check_and_index.ensures.value) _ (sym c.in_ok-flow.ensures) (sym c.in_ok-later_tests.ensures) _ (ap (λ (x : Option ℕ). ok_or x NoOffset) (sym c.first_offset.ensures) ∙ sym c.ok_or.ensures.value ∙ c.in_err-offset.was) in
    let s = stays _ _ _ a.list_room.now a.table_room.now _ e in
    record { value = grind arith; list_room_after = s.0; table_room_after = s.1 }

-- an offset is answered
answer : (c : In_ok-offset) → let a = c.args in
    Ok c.in_ok-offset.offset ≡ add_answer a.list.now a.table.now (new_flow a.number a.size a.interval a.jitter) (length a.list_room.now) (length a.table_room.now)
answer c =
    let a = c.args in
    offset_answers a.list.now a.table.now (new_flow a.number a.size a.interval a.jitter) (length a.list_room.now) (length a.table_room.now) (sym c.in_ok-check_and_index.ensures.value) _ (sym c.in_ok-flow.ensures) (sym c.in_ok-later_tests.ensures) _
    (ap (λ (x : Option ℕ). ok_or x NoOffset) (sym c.first_offset.ensures) ∙ sym c.ok_or.ensures.value ∙ c.in_ok-offset.was)

-- what is left to be known for writing
ready : (c : In_ok-offset) → let a = c.args in let g = c.in_ok-flow.flow in let o = c.in_ok-offset.offset in
    (tests1to4 a.list.now ≡ Passed) × (keeps g ≡ true) × (o < g.interval) × (list_bytes (flows_of a.list.now) g ≤ length a.list_room.now)
    × (place (count a.table.now + cycle_of a.table.now / g.interval) ≤ length a.table_room.now)
ready c = let a = c.args in may_write a.list.now a.table.now (new_flow a.number a.size a.interval a.jitter) _ (sym c.in_ok-flow.ensures) a.list_room.now a.table_room.now _ (answer c)

pub write_list-requires : goal.write_list-requires
write_list-requires c = let r = ready (goal.at.write_list-requires c).In_ok-offset in (r.0, r.1, r.3)

pub write_table-requires : goal.write_table-requires
write_table-requires c =
    let r = ready (goal.at.write_table-requires c).In_ok-offset in
    ((c.args.list.now, joined (goal.at.write_table-requires c).In_ok-later_tests), r.2, r.4)

pub returns : goal.returns
returns c =
    let a = c.args in
    let f = new_flow a.number a.size a.interval a.jitter in
    let e = answer (goal.at.returns c).In_ok-offset in
    record {
      value = grind arith;
      list_room_after = list_after a.list.now a.table.now f _ (sym c.in_ok-flow.ensures) a.list_room.now a.table_room.now _ e _ c.write_list.ensures;
      table_room_after = table_after a.list.now a.table.now f _ (sym c.in_ok-flow.ensures) a.list_room.now a.table_room.now _ e _ c.write_table.ensures;
    }
