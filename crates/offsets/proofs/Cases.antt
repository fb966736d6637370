-- Live add to case C's list and table, computed as lists, each under one claim. Assumes nothing.
use Rattle.std.proofs.Common.{◌≡◌, refl, List, [], ◌∷◌, Option, None, Some, Ok, Err, ℕ}
use Rattle.logic.specs.Lists.{All, every, sum}
use Rattle.fields.specs.Records.{packed, values_of}
use Rattle.flows.specs.declared.flow.Flow.{Flow}
use Rattle.flows.specs.Flows.{keeps, flow_of, packed_flow}
use Rattle.refusals.specs.declared.Refusal.TheVariants.{Field, UsedNumber, Unrelated, Room, OutsideSpan, NoOffset}
use Rattle.refusals.specs.Tests.{lowest, against, after}
use Rattle.lists.specs.Lists.{head as head_of_list, head_of as list_head_of, count as list_count, flow_at, flows_from, flows_of, records as list_records, list_of}
use Rattle.lists.specs.Facts.{occupies, related, cycle, least, frame, grants_of, grants}
use Rattle.lists.specs.Tests.{test1, test2, test3, test1exact, test4, new_number, test5, related_interval, test6, test7, tests1to4, tests1to7}
use Rattle.tables.specs.declared.packed.Grant.{Grant}
use Rattle.tables.specs.Tables.{head, head_of, count, cycle_of, frame_of, values_at, grant_at, spare_at, grants_from as table_grants_from, grants_of as grants_in, records, table_of}
use Rattle.tables.specs.Form.{headed, spared, formed, test11, rises, test12, form_tests}
use Rattle.law.specs.Check.{known, look, slots, to, listed, test13, test14, counted, test15, last, steps, timely, test16, clears, test17, ends, test18, tests14to18, law_tests, check}
use Rattle.refusals.specs.Results.{Written}
use Rattle.offsets.specs.Offsets.{grants_from, new_grants, apart, free, fits, smallest, offset, insert, joined}
use Rattle.offsets.specs.Adding.{with_new, test21, new_tests, list_bytes, table_bytes, test9, test22, add_tests, offset_found, add_answer}

-- number, size, interval, jitter
abbrev flow : ℕ → ℕ → ℕ → ℕ → Flow
flow n s i j = record { number = n; size = s; interval = i; jitter = j }

-- flow, start, late
abbrev grant : ℕ → ℕ → ℕ → Grant
grant f s l = record { flow = f; start = s; late = l }

-- case C's list, and its table
abbrev flows : List Flow
flows = flow 1 1 4 1 ∷ flow 2 4 8 0 ∷ []

abbrev table : List Grant
table = grant 1 0 0 ∷ grant 2 1 0 ∷ grant 1 5 1 ∷ []

-- a new flow, and the offset that it gets in case C's table
abbrev news : List (Flow × Option ℕ)
news =
    (flow 3 1 8 0, Some 6)
    ∷ (flow 3 2 8 0, Some 6)
    ∷ (flow 3 3 8 0, None)
    -- with two grants: 2 and 6 meet flow 2, 3 and 7 too
    ∷ (flow 3 1 4 0, None)
    ∷ []

-- each gets what stands beside it
pub worked : All (λ c. offset flows table c.0 ≡ c.1) news
unfolding every occupies cycle grants_of look slots grants_from new_grants apart free fits smallest offset
worked = (refl, (refl, (refl, (refl, tt))))

-- the table with the second of them
pub worked_table : joined (new_grants 8 (flow 3 2 8 0) 6) table ≡ grant 1 0 0 ∷ grant 2 1 0 ∷ grant 1 5 1 ∷ grant 3 6 0 ∷ []
unfolding grants_of grants_from new_grants insert joined
worked_table = refl

-- a new flow, the bytes of both rooms, and what live add to case C's list and table answers
abbrev answers : List (Flow × ℕ × ℕ × Written)
answers =
    (flow 3 2 8 0, 22, 28, Ok 6)
    ∷ (flow 3 3 8 0, 22, 28, Err NoOffset)
    -- a byte too few for the list, and for the table
    ∷ (flow 3 2 8 0, 21, 28, Err Room)
    ∷ (flow 3 2 8 0, 22, 27, Err Room)
    -- the new flow is the list's record 3
    ∷ (flow 3 9 8 0, 22, 28, Err (Field 3))
    ∷ (flow 1 2 8 0, 22, 28, Err (UsedNumber 3))
    ∷ (flow 3 2 6 0, 22, 28, Err (Unrelated 3))
    ∷ (flow 3 2 2 0, 22, 28, Err OutsideSpan)
    ∷ (flow 3 2 16 0, 22, 28, Err OutsideSpan)
    -- two faults at once: 4 before 5, 5 before 6, 6 before 21, 21 before 9, 9 before 22
    ∷ (flow 1 9 8 0, 22, 28, Err (Field 3))
    ∷ (flow 1 2 6 0, 22, 28, Err (UsedNumber 3))
    ∷ (flow 3 2 3 0, 22, 28, Err (Unrelated 3))
    ∷ (flow 3 2 2 0, 21, 28, Err OutsideSpan)
    ∷ (flow 3 3 8 0, 21, 28, Err Room)
    ∷ []

-- each is answered by what stands beside it
pub worked_answers : All (λ c. add_answer (list_of flows) (table_of 8 4 table) c.0 c.1 c.2 ≡ c.3) answers
unfolding packed values_of flow_of packed_flow keeps sum every lowest against after head_of_list list_head_of list_count flow_at flows_from flows_of list_records list_of occupies related cycle least frame grants_of grants test1 test2 test3 test1exact test4 new_number test5 related_interval test6 test7 tests1to4 tests1to7 head head_of count cycle_of frame_of values_at grant_at spare_at table_grants_from grants_in records table_of headed spared formed test11 rises test12 form_tests known look slots to test13 listed test14 counted test15 last steps timely test16 clears test17 ends test18 tests14to18 law_tests check grants_from new_grants apart free fits smallest offset with_new test21 new_tests list_bytes table_bytes test9 test22 add_tests offset_found add_answer
worked_answers = (refl, (refl, (refl, (refl, (refl, (refl, (refl, (refl, (refl, (refl, (refl, (refl, (refl, (refl, tt))))))))))))))
