-- Document 01's sheets and others on its edges, computed both ways as lists under one claim. Assumes nothing.
use mathlib.Core.Path.{◌≡◌, refl}
use mathlib.Core.List.{List, [], ◌∷◌, ◌++◌}
use Prim.Native.Nat.{ℕ, zero, suc}
use lib.ListN.{length, drop, replicate}
use Rattle.logic.specs.Lists.{All}
use Rattle.fields.specs.Records.{packed, values_of}
use Rattle.flows.specs.Flows.{keeps, flow_of, packed_flow}
use Rattle.refusals.specs.declared.Refusal.TheVariants.{Length, Head, Count, Field, Room, Line}
use Rattle.std.proofs.Common.{Ok, Err}
use Rattle.refusals.specs.Results.{Written}
use Rattle.refusals.specs.Tests.{lowest}
use Rattle.refusals.specs.Answers.{answer, written}
use Rattle.words.specs.Characters.{bytes}
use Rattle.words.specs.Words.{starts}
use Rattle.words.specs.Numerals.{digit, value}
use Rattle.words.specs.Numbers.{run, formed, number_of, number_at, number_after}
use Rattle.words.specs.Decimals.{width, digits, decimal}
use Rattle.lists.specs.Lists.{head, head_of, count, flow_at, flows_from, flows_of, records, list_of}
use Rattle.lists.specs.Tests.{test1, test2, test3, test1exact, test4, tests1to4}
use Rattle.sheets.specs.Texts.{piece, line, text}
use Rattle.sheets.specs.Lines.{before, lines}
use Rattle.sheets.specs.Readings.{ended, read, readings, flows_in}
use Rattle.sheets.specs.Tests.{test20, sheet_tests}
use Rattle.sheets.specs.Answers.{list_answer, room_of_list, sheet_answer, sheet_room}

-- a text n times
abbrev times : ℕ → List ℕ → List ℕ
times zero s = []
times (suc n) s = s ++ times n s

-- a line that passes
abbrev good : List ℕ
good = bytes "flow 1 size 1 every 4 jitter 2\n"

-- a line that breaks the rule of test 4
abbrev broken : List ℕ
broken = bytes "flow 1 size 5 every 4 jitter 2\n"

-- a line not of the form
abbrev bad : List ℕ
bad = bytes "flow 1 size 1 every 4 jiter 2\n"

-- case A's sheet and its list
abbrev sheet_a : List ℕ
sheet_a = bytes "flow 1 size 1 every 4 jitter 2\nflow 2 size 2 every 8 jitter 0\nflow 3 size 3 every 8 jitter 0\n"

abbrev list_a : List ℕ
list_a =
    0x11 ∷ 0x00 ∷ 0x00 ∷ 0x03 ∷ 0x00 ∷ 0x40 ∷ 0x04 ∷ 0x00 ∷ 0x80 ∷ 0x02 ∷ 0x00 ∷ 0x80 ∷ 0x08 ∷ 0x01 ∷ 0x00 ∷ 0x00 ∷ 0x00 ∷ 0xC0 ∷ 0x0C ∷ 0x01
    ∷ 0x00 ∷ 0x00 ∷ []

-- a room of n bytes
abbrev room : ℕ → List ℕ
room n = replicate n 0xA5

-- a sheet, the answer for a room of 24 bytes, and what then stands at the room's front
abbrev sheets : List (List ℕ × Written × List ℕ)
sheets =
    (sheet_a, Ok 22, list_a)
    -- no line, and too many
    ∷ (bytes "", Err Count, [])
    ∷ (times 129 good, Err Count, [])
    -- intervals 4,096 and 4,097, jitters 3 and 4 at interval 4
    ∷ (bytes "flow 1 size 1 every 4096 jitter 0\n", Ok 10, 0x11 ∷ 0x00 ∷ 0x00 ∷ 0x01 ∷ 0x00 ∷ 0x40 ∷ 0x06 ∷ 0x00 ∷ 0x00 ∷ 0x00 ∷ [])
    ∷ (bytes "flow 1 size 1 every 4097 jitter 0\n", Err (Field 1), [])
    ∷ (bytes "flow 1 size 1 every 4 jitter 3\n", Ok 10, 0x11 ∷ 0x00 ∷ 0x00 ∷ 0x01 ∷ 0x00 ∷ 0x40 ∷ 0x04 ∷ 0x00 ∷ 0x80 ∷ 0x03 ∷ [])
    ∷ (good ++ bytes "flow 2 size 1 every 4 jitter 4\n", Err (Field 2), [])
    -- another word, a tab, a space at the end, a carriage return, a second space, an empty line, a missing line feed
    ∷ (bad, Err (Line 1), [])
    ∷ (bytes "flow\t1 size 1 every 4 jitter 2\n", Err (Line 1), [])
    ∷ (bytes "flow 1 size 1 every 4 jitter 2 \n", Err (Line 1), [])
    ∷ (bytes "flow 1 size 1 every 4 jitter 2\r\n", Err (Line 1), [])
    ∷ (bytes "flow  1 size 1 every 4 jitter 2\n", Err (Line 1), [])
    ∷ (good ++ (bytes "\n" ++ good), Err (Line 2), [])
    ∷ (good ++ bytes "flow 2 size 1 every 4 jitter 2", Err (Line 2), [])
    -- a leading zero, five digits, no digit; "0" is of the form, and 9999 too
    ∷ (bytes "flow 01 size 1 every 4 jitter 2\n", Err (Line 1), [])
    ∷ (bytes "flow 1 size 1 every 4 jitter 00\n", Err (Line 1), [])
    ∷ (bytes "flow 1 size 1 every 10000 jitter 2\n", Err (Line 1), [])
    ∷ (bytes "flow  size 1 every 4 jitter 2\n", Err (Line 1), [])
    ∷ (bytes "flow 0 size 0 every 9999 jitter 0\n", Err (Field 1), [])
    -- 20 before 3 and 4, 3 before 4, 4 before 9
    ∷ (broken ++ (good ++ bad), Err (Line 3), [])
    ∷ (times 149 good ++ (bad ++ times 50 good), Err (Line 150), [])
    ∷ (times 129 broken, Err Count, [])
    ∷ (times 3 good ++ broken, Err (Field 4), [])
    ∷ (times 4 good, Err Room, [])
    ∷ []

-- a list, the answer for a room of 95 bytes, and what then stands at the room's front
abbrev lists : List (List ℕ × Written × List ℕ)
lists =
    (list_a, Ok 93, sheet_a)
    ∷ (0x11 ∷ 0x00 ∷ 0x00 ∷ [], Err Length, [])
    ∷ (0x21 ∷ 0x00 ∷ 0x00 ∷ 0x00 ∷ [], Err Head, [])
    ∷ (0x11 ∷ 0x00 ∷ 0x00 ∷ 0x00 ∷ [], Err Count, [])
    ∷ (list_a ++ (0x00 ∷ []), Err Length, [])
    -- a jitter of 4 at interval 4, and four lines
    ∷ (0x11 ∷ 0x00 ∷ 0x00 ∷ 0x01 ∷ 0x00 ∷ 0x40 ∷ 0x04 ∷ 0x00 ∷ 0x80 ∷ 0x04 ∷ [], Err (Field 1), [])
    ∷ (0x11 ∷ 0x00 ∷ 0x00 ∷ 0x04 ∷ times 4 (0x00 ∷ 0x40 ∷ 0x04 ∷ 0x00 ∷ 0x80 ∷ 0x02 ∷ []), Err Room, [])
    ∷ []

-- each way gives the answer that stands beside it, writes those bytes at the front and leaves the rest
pub worked : All (λ c. (list_answer c.0 24 ≡ c.1) × (room_of_list c.0 (room 24) ≡ c.2 ++ drop (length c.2) (room 24))) sheets
    × All (λ c. (sheet_answer c.0 95 ≡ c.1) × (sheet_room c.0 (room 95) ≡ c.2 ++ drop (length c.2) (room 95))) lists
unfolding packed values_of keeps flow_of packed_flow lowest answer written starts digit value run formed number_of number_at number_after width digits decimal head head_of count flow_at flows_from flows_of records list_of test1 test2 test3 test1exact test4 tests1to4 piece line text before lines ended read readings flows_in test20 sheet_tests
worked = (((refl, refl), ((refl, refl), ((refl, refl), ((refl, refl), ((refl, refl), ((refl, refl), ((refl, refl), ((refl, refl), ((refl, refl), ((refl, refl), ((refl, refl), ((refl, refl), ((refl, refl), ((refl, refl), ((refl, refl), ((refl, refl), ((refl, refl), ((refl, refl), ((refl, refl), ((refl, refl), ((refl, refl), ((refl, refl), ((refl, refl), ((refl, refl), tt)))))))))))))))))))))))), ((refl, refl), ((refl, refl), ((refl, refl), ((refl, refl), ((refl, refl), ((refl, refl), ((refl, refl), tt))))))))
