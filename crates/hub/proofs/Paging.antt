-- THE PAGING CUSTOMER. Document 02, L3: "Our paging customer has intervals of 20, 30 and 50 slots." Their list, refused by 6, is
-- rounded to the base 20 and planned. Assumes nothing.
use mathlib.Core.Path.{◌≡◌, refl, sym, ◌∙◌}
use mathlib.Core.List.{List, [], ◌∷◌, ◌++◌}
use Prim.Native.Nat.{ℕ, ◌≤◌}
use native.Mathlib.Omega.{arith}
use lib.ListN.{length, drop}
use Rattle.logic.specs.Lists.{every, sum}
use Rattle.fields.specs.Records.{packed, values_of}
use Rattle.flows.specs.Flows.{keeps, flow_of, packed_flow}
use Rattle.refusals.specs.declared.Refusal.TheVariants.{Unrelated}
use Rattle.std.proofs.Common.{Ok}
use Rattle.refusals.specs.Results.{Passed, Refused, Written}
use Rattle.refusals.specs.Tests.{lowest, against}
use Rattle.refusals.proofs.Rooms.{ends-written}
use Rattle.lists.specs.Lists.{head, head_of, count, flow_at, flows_from, flows_of, records, list_of}
use Rattle.lists.specs.Facts.{occupies, related, cycle, least, frame, grants_of, grants, load}
use Rattle.lists.specs.Tests.{test1, test2, test3, test1exact, test4, new_number, test5, related_interval, test6, test7, tests1to4, tests1to5, tests1to7}
use Rattle.tables.specs.Tables.{head as table_head, records as table_records, table_of}
use Rattle.law.specs.Check.{slots}
use Rattle.placing.specs.Rule.{weight, content, within, lawful, takes, first_lawful, contents, olds, put, group, rep, opened, settle, groups, present, rising, intervals, layout, row, rows, planned}
use Rattle.placing.specs.Tolerance.{largest, above, need, Tolerant}
use Rattle.planner.specs.Plan.{test8, test9, test10, plan_tests, grants_planned, plan_table}
use Rattle.bases.specs.Rounding.{largest_from, rounded, rounded_flow, rounded_flows}
use Rattle.bases.specs.Tests.{test27, reaches, test28, round_tests}
use Rattle.bases.proofs.Cases.{paging, paging_rounded}
use Rattle.hub.specs.Statements.{RoundList}
use Rattle.hub.proofs.Cases.{grant}

-- the list as it is has no plan, whatever the room: 30 is unrelated to 20
pub paging-refused : (n : ℕ) → plan_tests (list_of paging) n ≡ Refused (Unrelated 2)
unfolding every packed values_of keeps flow_of packed_flow lowest against head head_of count flow_at flows_from flows_of records list_of related test1 test2 test3 test1exact test4 new_number test5 related_interval test6 tests1to4 tests1to7 plan_tests
paging-refused n = refl

-- rounding it to the base 20 passes, and the list of these flows comes of it
rounds : (round_tests 20 (list_of paging) ≡ Passed) × (list_of (rounded_flows 20 (flows_of (list_of paging))) ≡ list_of paging_rounded)
unfolding every packed values_of keeps flow_of packed_flow lowest against head head_of count flow_at flows_from flows_of records list_of test1 test2 test3 test1exact test4 new_number test5 tests1to4 tests1to5 largest_from rounded rounded_flow rounded_flows test27 reaches test28 round_tests
rounds = (refl, refl)

-- it has these 22 bytes
pub paging-bytes : list_of paging_rounded ≡ 17 ∷ 0 ∷ 0 ∷ 3 ∷ 0 ∷ 64 ∷ 16 ∷ 2 ∷ 128 ∷ 5 ∷ 0 ∷ 128 ∷ 24 ∷ 2 ∷ 128 ∷ 19 ∷ 0 ∷ 192 ∷ 20 ∷ 5 ∷ 0 ∷ 39 ∷ []
unfolding packed packed_flow head records list_of
paging-bytes = refl

-- and they stand at the front of any room that is long enough
pub paging-answered : (room : List ℕ) → 22 ≤ length room → (r : Written) (room' : List ℕ) → RoundList 20 (list_of paging) room r room'
    → (r ≡ Ok 22) × (room' ≡ list_of paging_rounded ++ drop 22 room)
paging-answered room h r room' s =
    let new = list_of (rounded_flows 20 (flows_of (list_of paging))) in
    let long : length new ≡ 22 = rw (rounds.1, paging-bytes) in
    let w = ends-written (round_tests 20 (list_of paging)) new room 22 (new ++ drop 22 room) rounds.0 (omega (arith, long)) (sym long) (rw long) in
    (s.result ∙ sym w.0, s.bytes ∙ sym w.1 ∙ rw rounds.1)

-- it meets demand 3's premise
pub paging_tolerant : Tolerant paging_rounded
unfolding need above largest cycle occupies
paging_tolerant = (omega arith, (omega arith, (omega arith, tt)))

-- the load is 25 slots of 40
pub paging-load : (load paging_rounded ≡ 25) × (cycle paging_rounded ≡ 40)
unfolding sum occupies cycle grants_of load
paging-load = (refl, refl)

-- and this is its table
pub paging-planned :
    (plan_tests (list_of paging_rounded) 33 ≡ Passed)
    × (plan_table (list_of paging_rounded) ≡ table_of 40 20 (grant 1 0 0 ∷ grant 2 4 0 ∷ grant 3 10 0 ∷ grant 1 20 0 ∷ grant 2 24 0 ∷ []))
unfolding every sum packed values_of keeps flow_of packed_flow lowest against head head_of count flow_at flows_from flows_of records list_of occupies related cycle least frame grants_of grants load test1 test2 test3 test1exact test4 new_number test5 related_interval test6 test7 tests1to4 tests1to7 table_head table_records table_of slots weight content within lawful takes first_lawful contents olds put group rep opened settle groups present rising intervals layout row rows planned test8 test9 test10 plan_tests grants_planned plan_table
paging-planned = (refl, refl)
