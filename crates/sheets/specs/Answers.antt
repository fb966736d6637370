-- The answer and the room afterwards, sheet to list and list to sheet. Assumes nothing.
use Rattle.std.specs.Prelude.{ℕ, List}
use Rattle.refusals.specs.Results.{Written}
use Rattle.refusals.specs.Answers.{answer, written}
use Rattle.lists.specs.Lists.{flows_of, list_of}
use Rattle.lists.specs.Tests.{tests1to4}
use Rattle.sheets.specs.Texts.{text}
use Rattle.sheets.specs.Readings.{flows_in}
use Rattle.sheets.specs.Tests.{sheet_tests}

-- sheet to list: the answer for a room of n bytes
abbrev pub list_answer : List ℕ → ℕ → Written
list_answer s n = answer (sheet_tests s) (list_of (flows_in s)) n

-- and the room afterwards
abbrev pub room_of_list : List ℕ → List ℕ → List ℕ
room_of_list s room = written (sheet_tests s) (list_of (flows_in s)) room

-- list to sheet: the answer for a room of n bytes
abbrev pub sheet_answer : List ℕ → ℕ → Written
sheet_answer l n = answer (tests1to4 l) (text (flows_of l)) n

-- and the room afterwards
abbrev pub sheet_room : List ℕ → List ℕ → List ℕ
sheet_room l room = written (tests1to4 l) (text (flows_of l)) room
