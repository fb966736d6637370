-- Intervals, flows and lists rounded to a base, and what they answer, computed as lists, each under one claim. Assumes nothing.
use Rattle.std.proofs.Common.{◌≡◌, refl, List, [], ◌∷◌, map, ℕ, Ok, Err}
use Rattle.logic.specs.Lists.{All, every}
use Rattle.fields.specs.Records.{packed, values_of}
use Rattle.flows.specs.declared.flow.Flow.{Flow}
use Rattle.flows.specs.Flows.{keeps, flow_of, packed_flow}
use Rattle.refusals.specs.declared.Refusal.TheVariants.{Length, Head, Count, Field, UsedNumber, Room, NoBase, BelowBase}
use Rattle.refusals.specs.Results.{Written}
use Rattle.refusals.specs.Tests.{lowest, against}
use Rattle.refusals.specs.Answers.{answer}
use Rattle.lists.specs.Lists.{head, head_of, count, flow_at, flows_from, flows_of, records, list_of}
use Rattle.lists.specs.Tests.{test1, test2, test3, test1exact, test4, new_number, test5, tests1to4, tests1to5}
use Rattle.bases.specs.Rounding.{largest_from, rounded, rounded_flow, rounded_flows}
use Rattle.bases.specs.Tests.{test27, reaches, test28, round_tests, round_answer}

-- the paging customer's 20, 30 and 50 for the bases 20, 10, 15 and 1; the ends of the range; and 0 where no such number is
pub intervals-rounded :
    (map (rounded 20) (20 ∷ 30 ∷ 50 ∷ []) ∷ map (rounded 10) (20 ∷ 30 ∷ 50 ∷ []) ∷ map (rounded 15) (20 ∷ 30 ∷ 50 ∷ []) ∷ map (rounded 1) (20 ∷ 30 ∷ 50 ∷ [])
    ∷ map (rounded 1) (1 ∷ 4095 ∷ 4096 ∷ []) ∷ map (rounded 4096) (4095 ∷ 4096 ∷ []) ∷ map (rounded 0) (20 ∷ []) ∷ [])
    ≡ ((20 ∷ 20 ∷ 40 ∷ []) ∷ (20 ∷ 20 ∷ 40 ∷ []) ∷ (15 ∷ 30 ∷ 30 ∷ []) ∷ (16 ∷ 16 ∷ 32 ∷ []) ∷ (1 ∷ 2048 ∷ 4096 ∷ []) ∷ (0 ∷ 4096 ∷ []) ∷ (0 ∷ []) ∷ [])
unfolding rounded largest_from
intervals-rounded = refl

-- number, size, interval, jitter
abbrev flow : ℕ → ℕ → ℕ → ℕ → Flow
flow n s i j = record { number = n; size = s; interval = i; jitter = j }

-- the paging customer's flows, which 6 finds unrelated
abbrev pub paging : List Flow
paging = flow 1 4 20 5 ∷ flow 2 6 30 25 ∷ flow 3 5 50 45 ∷ []

-- what they become for the base 20: the sizes stay, and two jitters are capped
abbrev pub paging_rounded : List Flow
paging_rounded = flow 1 4 20 5 ∷ flow 2 6 20 19 ∷ flow 3 5 40 39 ∷ []

pub paging_rounded_lem : rounded_flows 20 paging ≡ paging_rounded
unfolding largest_from rounded rounded_flow rounded_flows
paging_rounded_lem = refl

-- flows 1 and 2, each with a size and an interval, and no jitter
abbrev two : ℕ → ℕ → ℕ → ℕ → List ℕ
two s i t k = list_of (flow 1 s i 0 ∷ flow 2 t k 0 ∷ [])

-- a base, the bytes of a list, the bytes of the room, and the answer
abbrev answers : List (ℕ × List ℕ × ℕ × Written)
answers =
    (20, list_of paging, 22, Ok 22)
    -- over the limits of 7, before and after
    ∷ (1, two 1 1 1 512, 20, Ok 16)
    -- 1 to 5: no bytes, an edition 2, no record, a record missing, a size of 0, a number used already
    ∷ (20, [], 22, Err Length)
    ∷ (20, 33 ∷ 0 ∷ 0 ∷ 1 ∷ [], 22, Err Head)
    ∷ (20, 17 ∷ 0 ∷ 0 ∷ 0 ∷ [], 22, Err Count)
    ∷ (20, 17 ∷ 0 ∷ 0 ∷ 1 ∷ [], 22, Err Length)
    ∷ (20, two 1 20 0 20, 22, Err (Field 2))
    ∷ (20, list_of (flow 7 1 20 0 ∷ flow 7 1 20 0 ∷ []), 22, Err (UsedNumber 2))
    -- 27: the ends of the range, and beyond them
    ∷ (0, list_of paging, 22, Err NoBase)
    ∷ (1, list_of paging, 22, Ok 22)
    ∷ (4096, two 1 4096 1 4096, 16, Ok 16)
    ∷ (4097, list_of paging, 22, Err NoBase)
    -- 28: the first record, and a later one; an interval equal to the base passes
    ∷ (21, list_of paging, 22, Err (BelowBase 1))
    ∷ (25, two 1 30 1 20, 16, Err (BelowBase 2))
    ∷ (30, two 1 30 1 50, 16, Ok 16)
    -- 4 on the new list: a size of the new interval, and one more
    ∷ (20, two 1 20 20 30, 16, Ok 16)
    ∷ (20, two 1 20 21 30, 16, Err (Field 2))
    -- 9: a byte too few
    ∷ (20, list_of paging, 21, Err Room)
    -- two faults at once: 4 before 5, 5 before 27, 27 before 28, 28 before 4 on the new list, that before 9
    ∷ (20, list_of (flow 7 1 20 0 ∷ flow 7 1 20 0 ∷ flow 8 0 20 0 ∷ []), 22, Err (Field 3))
    ∷ (0, list_of (flow 7 1 20 0 ∷ flow 7 1 20 0 ∷ []), 16, Err (UsedNumber 2))
    ∷ (4097, two 1 20 1 30, 16, Err NoBase)
    ∷ (20, two 21 30 1 19, 16, Err (BelowBase 2))
    ∷ (20, two 21 30 1 30, 15, Err (Field 1))
    ∷ []

-- each is answered by what stands beside it
pub worked_answers : All (λ c. round_answer c.0 c.1 c.2 ≡ c.3) answers
unfolding packed values_of packed_flow flow_of keeps every lowest against answer head head_of count flow_at flows_from flows_of records list_of test1 test2 test3 test1exact test4 new_number test5 tests1to4 tests1to5 largest_from rounded rounded_flow rounded_flows test27 reaches test28 round_tests
worked_answers = (refl, (refl, (refl, (refl, (refl, (refl, (refl, (refl, (refl, (refl, (refl, (refl, (refl, (refl, (refl, (refl, (refl, (refl, (refl, (refl, (refl, (refl, (refl, tt)))))))))))))))))))))))
