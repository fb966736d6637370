-- DEMAND 2. "A table passes the check exactly when, repeated forever, it obeys the published 2002 scheduling rules, within one round as
-- document 01 says. The planner's table is the one its placing rule names, and it passes. Sheet → list → sheet and list → sheet →
-- list give the same bytes." Assumes nothing.
use mathlib.Core.Path.{◌≡◌}
use mathlib.Core.Logic.{◌↔◌}
use mathlib.Core.List.{List, ◌++◌}
use Prim.Native.Nat.{ℕ, ◌≤◌, ◌<◌}
use lib.ListN.{length, get_or, take, drop}
use Rattle.std.proofs.Common.{Ok}
use Rattle.refusals.specs.Results.{Passed}
use Rattle.refusals.proofs.Rooms.{written_front}
use Rattle.refusals.proofs.Chains.{both_passed}
use Rattle.lists.specs.Lists.{flows_of}
use Rattle.lists.specs.Facts.{cycle, frame}
use Rattle.lists.specs.Tests.{tests1to7}
use Rattle.sheets.specs.Answers.{list_answer, room_of_list, sheet_answer, sheet_room}
use Rattle.sheets.proofs.RoundTrip as RoundTrip
use Rattle.tables.specs.declared.packed.Grant.{Grant}
use Rattle.tables.specs.Tables.{table_of}
use Rattle.law.specs.Check.{check}
use Rattle.law.specs.Lawful.{Lawful}
use Rattle.law.proofs.Demand.{check_is_lawful}
use Rattle.placing.specs.Rule.{done, planned}
use Rattle.planner.specs.Plan.{test8, test9, plan_tests, grants_planned, plan_table, plan_answer, plan_room}
use Rattle.planner.proofs.Passes.{placed, plan-passes}

-- a table passes the check exactly when, repeated forever, it obeys the law within one round
pub passes_exactly : (l t : List ℕ) → (check l t ≡ Passed) ↔ Lawful l t
passes_exactly l t = check_is_lawful l t

-- what planning writes into a room, in so many bytes, is the table of the grants that the placing rule names
pub plan_is_the_rule : (l room : List ℕ) (k : ℕ) → plan_answer l (length room) ≡ Ok k
    → (gs : List Grant) × (planned (flows_of l) ≡ done gs) × (take k (plan_room l room) ≡ table_of (cycle (flows_of l)) (frame (flows_of l)) gs)
unfolding plan_answer plan_room plan_table plan_tests
plan_is_the_rule l room k e =
    let front = written_front (plan_tests l (length room)) (plan_table l) room k e in
    let a = both_passed (tests1to7 l) _ front.0 in
    let b = both_passed (test8 (flows_of l)) _ a.1 in
    let c = both_passed (test9 (flows_of l) (length room)) _ b.1 in
    (grants_planned (flows_of l), placed (flows_of l) c.1, front.1)

-- and it passes the check
pub plan_table-passes : (l room : List ℕ) (k : ℕ) → plan_answer l (length room) ≡ Ok k → check l (take k (plan_room l room)) ≡ Passed
unfolding plan_answer plan_room
plan_table-passes l room k e =
    let front = written_front (plan_tests l (length room)) (plan_table l) room k e in
    rw front.1 (plan-passes l (length room) front.0)

-- sheet → list → sheet: the same bytes, whatever the rooms held
pub sheet_comes_back : (s room room' : List ℕ) (k : ℕ) → list_answer s (length room) ≡ Ok k → length s ≤ length room'
    → let l = take k (room_of_list s room) in
    (sheet_answer l (length room') ≡ Ok (length s)) × (sheet_room l room' ≡ s ++ drop (length s) room')
sheet_comes_back = RoundTrip.sheet_comes_back

-- list → sheet → list: the same bytes, whatever the rooms held
pub list_comes_back : (l room room' : List ℕ) (k : ℕ) → ((i : ℕ) → get_or l i 0 < 256) → sheet_answer l (length room) ≡ Ok k → length l ≤ length room'
    → let s = take k (sheet_room l room) in
    (list_answer s (length room') ≡ Ok (length l)) × (room_of_list s room' ≡ l ++ drop (length l) room')
list_comes_back = RoundTrip.list_comes_back
