-- Runs of settings and what they answer, computed as lists, each under one claim. Assumes nothing.
use Rattle.std.proofs.Common.{◌≡◌, refl, List, [], ◌∷◌, ◌++◌, ℕ, length, Ok, Err}
use Rattle.logic.specs.Lists.{All, every}
use Rattle.fields.specs.Records.{packed}
use Rattle.flows.specs.declared.flow.Flow.{Flow}
use Rattle.flows.specs.Flows.{keeps, packed_flow}
use Rattle.refusals.specs.declared.Refusal.TheVariants.{Count, Field, Unrelated, Room, Encoding, MissingSetting, NotWhole, NoChannel}
use Rattle.refusals.specs.Results.{Written}
use Rattle.refusals.specs.Tests.{lowest, against}
use Rattle.refusals.specs.Answers.{answer}
use Rattle.lists.specs.Lists.{head, records, list_of}
use Rattle.lists.specs.Facts.{related}
use Rattle.lists.specs.Tests.{test3, test4, new_number, test5, related_interval, test6}
use Rattle.settings.specs.Runs.{first_items, items}
use Rattle.settings.specs.Encodings.{number_from, number, values_of, call_of, call, all_four, sound, complete}
use Rattle.settings.specs.Slots.{Channel, channel, rounded_up, whole_slots, flow_for, flows_for, flows_from, flows_asked}
use Rattle.settings.specs.Tests.{test26, test23, test24, test25, settings_tests, settings_answer}

-- slots of 125 microseconds and 16 bytes
abbrev slots : Channel
slots = channel 125 16

-- one of the four settings: a size and grants in one byte, an interval in two
abbrev size : ℕ → List ℕ
size n = 19 ∷ 2 ∷ 0 ∷ n ∷ []

abbrev interval : ℕ → ℕ → List ℕ
interval h l = 20 ∷ 4 ∷ 0 ∷ 0 ∷ h ∷ l ∷ []

abbrev grants : ℕ → List ℕ
grants n = 22 ∷ 1 ∷ n ∷ []

-- 800 microseconds
abbrev jitter : List ℕ
jitter = 21 ∷ 4 ∷ 0 ∷ 0 ∷ 3 ∷ 32 ∷ []

-- the four: n bytes, 256 × h + l microseconds, k grants
abbrev four : ℕ → ℕ → ℕ → ℕ → List ℕ
four n h l k = size n ++ (interval h l ++ (jitter ++ grants k))

-- the encoding that holds settings
abbrev encoding : List ℕ → List ℕ
encoding s = 24 ∷ length s ∷ s

-- 232 bytes every 20,000 microseconds, by k grants
abbrev voice : ℕ → List ℕ
voice k = encoding (four 232 78 32 k)

-- the same every 20,001, which are not whole slots, and every 12,500, which are 100 slots
abbrev odd : ℕ → List ℕ
odd k = encoding (four 232 78 33 k)

abbrev other : ℕ → List ℕ
other n = encoding (four n 48 212 1)

-- number, size, interval, jitter
abbrev flow : ℕ → ℕ → ℕ → ℕ → Flow
flow n s i j = record { number = n; size = s; interval = i; jitter = j }

-- two grants per interval are two flows; 232 bytes take 15 slots of 16, 20 milliseconds are 160 slots, 800 microseconds 6 and a rest
pub worked : flows_asked slots (voice 2) ≡ flow 1 15 160 6 ∷ flow 2 15 160 6 ∷ []
unfolding first_items items number_from values_of call_of call rounded_up flow_for flows_for flows_from flows_asked
worked = refl

-- the most significant byte first
pub worked_number : number (1 ∷ 2 ∷ 3 ∷ 4 ∷ []) ≡ 16909060
unfolding number_from
worked_number = refl

-- a channel, a run, the bytes of the room, and the answer
abbrev answers : List (Channel × List ℕ × ℕ × Written)
answers =
    (slots, voice 2, 16, Ok 16)
    ∷ (slots, voice 2 ++ voice 1, 30, Ok 22)
    -- other settings are stepped over: types 0, 255, 23 and 24
    ∷ (slots, encoding (0 ∷ 0 ∷ 255 ∷ 1 ∷ 19 ∷ (four 232 78 32 2 ++ (23 ∷ 2 ∷ 22 ∷ 1 ∷ 24 ∷ 0 ∷ []))), 16, Ok 16)
    -- 26, either value
    ∷ (channel 0 16, voice 2, 16, Err NoChannel)
    ∷ (channel 125 0, voice 2, 16, Err NoChannel)
    -- 23: one byte left, a length past the end, other types at the top
    ∷ (slots, voice 2 ++ (24 ∷ []), 16, Err (Encoding 2))
    ∷ (slots, voice 2 ++ (24 ∷ 1 ∷ []), 16, Err (Encoding 2))
    ∷ (slots, voice 2 ++ (25 ∷ 0 ∷ []), 16, Err (Encoding 2))
    ∷ (slots, 0 ∷ 0 ∷ voice 2, 16, Err (Encoding 1))
    ∷ (slots, 255 ∷ 0 ∷ voice 2, 16, Err (Encoding 1))
    -- inside: a length past the encoding, though not past the run, and one byte left
    ∷ (slots, encoding (four 232 78 32 2 ++ (23 ∷ 1 ∷ [])) ++ voice 2, 28, Err (Encoding 1))
    ∷ (slots, encoding (four 232 78 32 2 ++ (23 ∷ [])), 16, Err (Encoding 1))
    -- one of the four repeated, and of wrong length
    ∷ (slots, encoding (four 232 78 32 2 ++ grants 2), 16, Err (Encoding 1))
    ∷ (slots, voice 2 ++ encoding (size 232 ++ (interval 78 32 ++ (jitter ++ (22 ∷ 2 ∷ 0 ∷ 2 ∷ [])))), 28, Err (Encoding 2))
    -- 24: none of the four, and one missing
    ∷ (slots, encoding [], 16, Err (MissingSetting 1))
    ∷ (slots, voice 2 ++ encoding (size 232 ++ (interval 78 32 ++ grants 2)), 28, Err (MissingSetting 2))
    -- 25
    ∷ (slots, voice 2 ++ odd 2, 28, Err (NotWhole 2))
    -- 3: nothing, no grant, and too many; 128 are taken
    ∷ (slots, [], 16, Err Count)
    ∷ (slots, voice 0, 16, Err Count)
    ∷ (slots, voice 255, 1534, Err Count)
    ∷ (slots, voice 128, 772, Ok 772)
    -- 4: no bytes, and an interval of 0, which is whole
    ∷ (slots, voice 2 ++ encoding (four 0 78 32 1), 22, Err (Field 3))
    ∷ (slots, encoding (four 232 0 0 2), 16, Err (Field 1))
    -- 6: 100 slots against 160
    ∷ (slots, voice 2 ++ other 232, 22, Err (Unrelated 3))
    -- 9: a byte too few
    ∷ (slots, voice 2, 15, Err Room)
    -- two faults at once: 26 before 23, 23 before 24, 24 before 25, 25 before 3, 3 before 4, 4 before 6, 6 before 9
    ∷ (channel 0 16, 24 ∷ [], 16, Err NoChannel)
    ∷ (slots, encoding [] ++ (24 ∷ []), 16, Err (Encoding 2))
    ∷ (slots, odd 2 ++ encoding [], 16, Err (MissingSetting 2))
    ∷ (slots, odd 0, 16, Err (NotWhole 1))
    ∷ (slots, encoding (four 0 78 32 129), 778, Err Count)
    ∷ (slots, voice 2 ++ (other 232 ++ other 0), 28, Err (Field 4))
    ∷ (slots, voice 2 ++ other 232, 0, Err (Unrelated 3))
    ∷ []

-- each is answered by what stands beside it
pub worked_answers : All (λ c. settings_answer c.0 c.1 c.2 ≡ c.3) answers
unfolding packed packed_flow keeps every lowest against answer head records list_of related test3 test4 new_number test5 related_interval test6 first_items items number_from values_of call_of call all_four sound complete rounded_up whole_slots flow_for flows_for flows_from flows_asked test26 test23 test24 test25 settings_tests
worked_answers = (refl, (refl, (refl, (refl, (refl, (refl, (refl, (refl, (refl, (refl, (refl, (refl, (refl, (refl, (refl, (refl, (refl, (refl, (refl, (refl, (refl, (refl, (refl, (refl, (refl, (refl, (refl, (refl, (refl, (refl, (refl, (refl, tt))))))))))))))))))))))))))))))))
