-- Document 01's cases marked P: A, B, C twice, D three times, E, and the four of G, of packed lists and tables, as one list under
-- one claim. Assumes nothing.
use mathlib.Core.Path.{◌≡◌, refl}
use mathlib.Core.List.{List, [], ◌∷◌}
use Prim.Native.Nat.{ℕ}
use Rattle.logic.specs.Lists.{All, every, sum}
use Rattle.flows.specs.declared.flow.Flow.{Flow}
use Rattle.fields.specs.Records.{packed, values_of}
use Rattle.flows.specs.Flows.{keeps, flow_of, packed_flow}
use Rattle.refusals.specs.declared.Refusal.{Refusal}
use Rattle.refusals.specs.declared.Refusal.TheVariants.{Overload, NoFrame, GrantCount, Timing, Overlap}
use Rattle.refusals.specs.Results.{Checked, Passed, Refused}
use Rattle.refusals.specs.Tests.{lowest, against, after}
use Rattle.lists.specs.Lists.{head, head_of, count, flow_at, flows_from, flows_of, records, list_of}
use Rattle.lists.specs.Facts.{occupies, related, cycle, least, frame, grants_of, grants, load}
use Rattle.lists.specs.Tests.{test1, test2, test3, test1exact, test4, new_number, test5, related_interval, test6, test7, tests1to4, tests1to7}
use Rattle.tables.specs.declared.packed.Grant.{Grant}
use Rattle.tables.specs.Tables.{head as table_head, head_of as table_head_of, count as table_count, cycle_of, frame_of, values_at, grant_at, spare_at, grants_from, grants_of as grants_in, records as table_records, table_of}
use Rattle.tables.specs.Form.{headed, spared, formed, test11, rises, test12, form_tests}
use Rattle.law.specs.Check.{known, look, slots, to, test13, listed, test14, counted, test15, last, steps, timely, test16, clears, test17, ends, test18, tests14to18, law_tests, check}
use Rattle.placing.specs.Rule.{weight, content, within, lawful, takes, first_lawful, contents, olds, put, group, rep, opened, settle, groups, present, rising, intervals, layout, row, rows, planned}
use Rattle.planner.specs.Plan.{test8, test9, test10, plan_tests, grants_planned, plan_table}

-- number, size, interval, jitter
abbrev pub flow : ℕ → ℕ → ℕ → ℕ → Flow
flow n s i j = record { number = n; size = s; interval = i; jitter = j }

-- flow, start, late
abbrev pub grant : ℕ → ℕ → ℕ → Grant
grant f s l = record { flow = f; start = s; late = l }

-- a case: a list that is planned to these grants, one that is refused, or a table and what the check answers
pub data Case : Type 0 where
  plans : List Flow → List Grant → Case
  refuses : List Flow → Refusal → Case
  checks : List Flow → List Grant → Checked → Case

-- what a case claims of the packed list and the packed table; a table of 1,024 grants has 5,128 bytes
abbrev Claimed : Case → Type 0
Claimed (plans fs gs) = (plan_tests (list_of fs) 5128 ≡ Passed) × (plan_table (list_of fs) ≡ table_of (cycle fs) (frame fs) gs)
Claimed (refuses fs r) = plan_tests (list_of fs) 5128 ≡ Refused r
Claimed (checks fs gs answer) = check (list_of fs) (table_of (cycle fs) (frame fs) gs) ≡ answer

-- case A's flows, with the first one's jitter
abbrev pub list_a : ℕ → List Flow
list_a j = flow 1 1 4 j ∷ flow 2 2 8 0 ∷ flow 3 3 8 0 ∷ []

-- case E's flows
abbrev pub list_e : List Flow
list_e = flow 1 1 4 3 ∷ flow 2 2 8 2 ∷ flow 3 3 16 0 ∷ []

-- case A's grants, with the last one or another or none
abbrev grants_a : List Grant → List Grant
grants_a end = grant 1 0 0 ∷ grant 2 1 0 ∷ grant 3 3 0 ∷ end

abbrev cases : List Case
cases =
    -- A
    plans (list_a 2) (grants_a (grant 1 6 2 ∷ []))
    -- B
    ∷ plans (list_a 1) (grant 1 0 0 ∷ grant 2 1 0 ∷ grant 1 4 0 ∷ grant 3 5 0 ∷ [])
    -- C
    ∷ refuses (flow 1 1 4 0 ∷ flow 2 4 8 0 ∷ []) (NoFrame 2)
    ∷ plans (flow 1 1 4 1 ∷ flow 2 4 8 0 ∷ []) (grant 1 0 0 ∷ grant 2 1 0 ∷ grant 1 5 1 ∷ [])
    -- D
    ∷ plans (flow 1 1 4 3 ∷ flow 2 6 8 0 ∷ []) (grant 1 0 0 ∷ grant 2 1 0 ∷ grant 1 7 3 ∷ [])
    ∷ refuses (flow 1 1 4 2 ∷ flow 2 6 8 0 ∷ []) (NoFrame 2)
    ∷ refuses (flow 1 1 4 3 ∷ flow 2 7 8 0 ∷ []) Overload
    -- E
    ∷ plans list_e (grant 1 0 0 ∷ grant 2 1 0 ∷ grant 3 3 0 ∷ grant 1 6 2 ∷ grant 1 8 0 ∷ grant 2 9 0 ∷ grant 1 12 0 ∷ [])
    -- G
    ∷ checks (list_a 2) (grants_a (grant 1 6 1 ∷ [])) (Refused (Timing 4))
    ∷ checks (list_a 2) (grants_a (grant 1 5 1 ∷ [])) (Refused (Overlap 4))
    ∷ checks (list_a 2) (grants_a (grant 1 7 3 ∷ [])) (Refused (Timing 4))
    ∷ checks (list_a 2) (grants_a []) (Refused (GrantCount 1))
    ∷ []

pub worked : All Claimed cases
unfolding every sum packed values_of keeps flow_of packed_flow lowest against after head head_of count flow_at flows_from flows_of records list_of occupies related cycle least frame grants_of grants load test1 test2 test3 test1exact test4 new_number test5 related_interval test6 test7 tests1to4 tests1to7 table_head table_head_of table_count cycle_of frame_of values_at grant_at spare_at grants_from grants_in table_records table_of headed spared formed test11 rises test12 form_tests known look slots to test13 listed test14 counted test15 last steps timely test16 clears test17 ends test18 tests14to18 law_tests check weight content within lawful takes first_lawful contents olds put group rep opened settle groups present rising intervals layout row rows planned test8 test9 test10 plan_tests grants_planned plan_table
worked = (
  (refl, refl),
  ((refl, refl), (refl, ((refl, refl), ((refl, refl), (refl, (refl, ((refl, refl), (refl, (refl, (refl, (refl, tt))))))))))),
)
