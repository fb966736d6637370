-- The check of document 01's case G, of case E's table, of each way to break test 16, and of tables with two faults, computed as
-- one list under one claim. Assumes nothing.
use mathlib.Core.Path.{◌≡◌, refl}
use mathlib.Core.List.{List, [], ◌∷◌}
use Prim.Native.Nat.{ℕ}
use Rattle.logic.specs.Lists.{All, every, sum}
use Rattle.flows.specs.declared.flow.Flow.{Flow}
use Rattle.fields.specs.Records.{packed, values_of}
use Rattle.flows.specs.Flows.{keeps, flow_of, packed_flow}
use Rattle.refusals.specs.declared.Refusal.TheVariants.{NotRising, UnknownFlow, GrantCount, Timing, Overlap, PastCycle}
use Rattle.refusals.specs.Results.{Checked, Passed, Refused}
use Rattle.refusals.specs.Tests.{lowest, against, after}
use Rattle.lists.specs.Lists.{head as head_of_list, head_of as list_head_of, count as list_count, flow_at, flows_from, flows_of, records as list_records, list_of}
use Rattle.lists.specs.Facts.{occupies, related, cycle, least, frame, grants_of, grants}
use Rattle.lists.specs.Tests.{test1, test2, test3, test1exact, test4, new_number, test5, related_interval, test6, test7, tests1to4, tests1to7}
use Rattle.tables.specs.declared.packed.Grant.{Grant}
use Rattle.tables.specs.Tables.{head, head_of, count, cycle_of, frame_of, values_at, grant_at, spare_at, grants_from, grants_of as grants_in, records, table_of}
use Rattle.tables.specs.Form.{headed, spared, formed, test11, rises, test12, form_tests}
use Rattle.law.specs.Check.{known, look, slots, to, listed, test13, test14, counted, test15, last, steps, timely, test16, clears, test17, ends, test18, tests14to18, law_tests, check}

-- number, size, interval, jitter
abbrev flow : ℕ → ℕ → ℕ → ℕ → Flow
flow n s i j = record { number = n; size = s; interval = i; jitter = j }

-- flow, start, late
abbrev grant : ℕ → ℕ → ℕ → Grant
grant f s l = record { flow = f; start = s; late = l }

-- case A's list
abbrev flows : List Flow
flows = flow 1 1 4 2 ∷ flow 2 2 8 0 ∷ flow 3 3 8 0 ∷ []

-- case A's table, with these grants for its last one
abbrev table_with : List Grant → List Grant
table_with last = grant 1 0 0 ∷ grant 2 1 0 ∷ grant 3 3 0 ∷ last

-- a flow whose second grant can end after the cycle, and one of that size before it
abbrev wide : ℕ → List Flow
wide size = flow 1 2 4 3 ∷ flow 2 size 8 0 ∷ []

-- a list's flows, a table's grants, and what the check says
abbrev tables : List (List Flow × List Grant × Checked)
tables =
    -- case G: the last grant as it is, changed and removed
    (flows, table_with (grant 1 6 2 ∷ []), Passed)
    ∷ (flows, table_with (grant 1 6 1 ∷ []), Refused (Timing 4))
    ∷ (flows, table_with (grant 1 5 1 ∷ []), Refused (Overlap 4))
    ∷ (flows, table_with (grant 1 7 3 ∷ []), Refused (Timing 4))
    ∷ (flows, table_with [], Refused (GrantCount 1))
    -- case E's table: its late grant is followed by one that is not
    ∷ (
      flow 1 1 4 3 ∷ flow 2 2 8 2 ∷ flow 3 3 16 0 ∷ [],
      grant 1 0 0 ∷ grant 2 1 0 ∷ grant 3 3 0 ∷ grant 1 6 2 ∷ grant 1 8 0 ∷ grant 2 9 0 ∷ grant 1 12 0 ∷ [],
      Passed,
    )
    -- late over the start, a first nominal time that is the interval, and an end after the cycle
    ∷ (flows, grant 1 0 1 ∷ grant 2 1 0 ∷ grant 3 3 0 ∷ grant 1 6 2 ∷ [], Refused (Timing 1))
    ∷ (flow 1 1 4 0 ∷ [], grant 1 4 0 ∷ [], Refused (Timing 1))
    ∷ (wide 1, grant 1 0 0 ∷ grant 2 2 0 ∷ grant 1 7 3 ∷ [], Refused (PastCycle 3))
    -- two faults in one table: 12 before 14, 14 before 15, 15 before 16, 16 before 17, 17 before 18
    ∷ (flows, grant 1 0 0 ∷ grant 9 0 0 ∷ [], Refused (NotRising 2))
    ∷ (flows, grant 9 0 0 ∷ [], Refused (UnknownFlow 1))
    ∷ (flows, grant 1 0 3 ∷ [], Refused (GrantCount 1))
    ∷ (flows, table_with (grant 1 5 2 ∷ []), Refused (Timing 4))
    ∷ (wide 6, grant 1 0 0 ∷ grant 2 2 0 ∷ grant 1 7 3 ∷ [], Refused (Overlap 3))
    ∷ []

-- the check says of each table what stands beside it
pub worked : All (λ c. check (list_of c.0) (table_of (cycle c.0) (frame c.0) c.1) ≡ c.2) tables
unfolding packed values_of flow_of packed_flow keeps sum every lowest against after head_of_list list_head_of list_count flow_at flows_from flows_of list_records list_of occupies related cycle least frame grants_of grants test1 test2 test3 test1exact test4 new_number test5 related_interval test6 test7 tests1to4 tests1to7 head head_of count cycle_of frame_of values_at grant_at spare_at grants_from grants_in records table_of headed spared formed test11 rises test12 form_tests known look slots to test13 listed test14 counted test15 last steps timely test16 clears test17 ends test18 tests14to18 law_tests check
worked = (refl, (refl, (refl, (refl, (refl, (refl, (refl, (refl, (refl, (refl, (refl, (refl, (refl, (refl, tt))))))))))))))
