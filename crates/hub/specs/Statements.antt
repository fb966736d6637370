-- What each public operation states, for all inputs: the result, and every byte of its room. The contracts in `src/` say the same
-- of the code. Assumes nothing.
use Rattle.std.specs.Prelude.{◌≡◌, List, ℕ, length}
use Rattle.std.specs.Borrow.{Bor}
use Rattle.flows.specs.Flows.{new_flow}
use Rattle.refusals.specs.Results.{Checked, Written}
use Rattle.sheets.specs.Answers.{list_answer, room_of_list, sheet_answer, sheet_room}
use Rattle.windows.specs.Window.{window_tests, edge, Stretch}
use Rattle.law.specs.Check.{check}
use Rattle.planner.specs.Plan.{plan_answer, plan_room}
use Rattle.offsets.specs.Adding.{add_answer, room_of_list as new_list_room, room_of_table as new_table_room}
use Rattle.settings.specs.Slots.{channel}
use Rattle.settings.specs.Tests.{settings_answer, settings_room}
use Rattle.bases.specs.Tests.{round_answer, round_room}

-- an operation that writes: r is its answer and room' the room afterwards
pub record Writes (answer : ℕ → Written) (after : List ℕ → List ℕ) (room : List ℕ) (r : Written) (room' : List ℕ) : Type 0 where
  pub result : r ≡ answer (length room)
  pub bytes : room' ≡ after room

-- sheet to list
abbrev pub ListFromSheet : List ℕ → List ℕ → Written → List ℕ → Type 0
ListFromSheet s room r room' = Writes (list_answer s) (room_of_list s) room r room'

-- list to sheet
abbrev pub SheetFromList : List ℕ → List ℕ → Written → List ℕ → Type 0
SheetFromList l room r room' = Writes (sheet_answer l) (sheet_room l) room r room'

-- plan
abbrev pub Plan : List ℕ → List ℕ → Written → List ℕ → Type 0
Plan l room r room' = Writes (plan_answer l) (plan_room l) room r room'

-- check: it writes nothing
abbrev pub Check : List ℕ → List ℕ → Checked → Type 0
Check l t r = r ≡ check l t

-- window: r is the stretch of the caller's own table t; it writes nothing
abbrev pub Window : Bor (List ℕ) → ℕ → ℕ → Bor (List ℕ) → Type 0
Window t a b r = Stretch t r (edge (window_tests t.now a b) t.now a) (edge (window_tests t.now a b) t.now b)

-- live add of the flow with these four numbers: r is its answer, and a' and b' are the list's room a and the table's room b afterwards
pub record LiveAdd (l t : List ℕ) (number size interval jitter : ℕ) (a b : List ℕ) (r : Written) (a' b' : List ℕ) : Type 0 where
  pub result : r ≡ add_answer l t (new_flow number size interval jitter) (length a) (length b)
  pub list_after : a' ≡ new_list_room l t (new_flow number size interval jitter) a (length b)
  pub table_after : b' ≡ new_table_room l t (new_flow number size interval jitter) (length a) b

-- modem settings to list, for a slot length in microseconds and bytes in a slot
abbrev pub ListFromSettings : (microseconds bytes : ℕ) (s room : List ℕ) (r : Written) (room' : List ℕ) → Type 0
ListFromSettings microseconds bytes s room r room' =
    let ch = channel microseconds bytes in
    Writes (settings_answer ch s) (settings_room ch s) room r room'

-- rounding the intervals of a list to a base
abbrev pub RoundList : (c : ℕ) (l room : List ℕ) (r : Written) (room' : List ℕ) → Type 0
RoundList c l room r room' = Writes (round_answer c l) (round_room c l) room r room'
