-- Sheet to list to sheet, and list to sheet to list: the same bytes. Assumes nothing.
use mathlib.Core.Path.{◌≡◌, refl, sym, ap, ◌∙◌}
use mathlib.Core.List.{List, ◌++◌}
use Prim.Native.Nat.{ℕ, ◌≤◌, ◌<◌}
use native.Mathlib.Omega.{arith}
use lib.ListN.{length, get_or, take, drop}
use Rattle.std.proofs.Common.{Ok}
use Rattle.refusals.specs.Results.{Passed}
use Rattle.refusals.proofs.Rooms.{ends-written, written_front}
use Rattle.lists.specs.Lists.{flows_of, list_of}
use Rattle.lists.specs.Tests.{tests1to4}
use Rattle.lists.proofs.Records.{length-flows}
use Rattle.lists.proofs.Verdicts.{few, kept_exactly}
use Rattle.lists.proofs.RoundTrip.{flows_back, list_passes, listed, list_back}
use Rattle.sheets.specs.Texts.{text}
use Rattle.sheets.specs.Readings.{flows_in}
use Rattle.sheets.specs.Tests.{sheet_tests}
use Rattle.sheets.specs.Answers.{list_answer, room_of_list, sheet_answer, sheet_room}
use Rattle.sheets.proofs.Tests.{rule-answers, sound}
use Rattle.sheets.proofs.Sheets.{sheet_passes, passes_sheet, sheet_is_text, text_is_sheet}

-- ---- on the definitions

-- a sheet that passes makes a list that passes, and that list makes the sheet
pub sheet_list_sheet : (s : List ℕ) → sheet_tests s ≡ Passed → (tests1to4 (list_of (flows_in s)) ≡ Passed) × (text (flows_of (list_of (flows_in s))) ≡ s)
sheet_list_sheet s e =
    let k = sound s e in (
      list_passes (flows_in s) k.some k.few k.kept,
      ap text (flows_back (flows_in s) k.some k.few k.kept) ∙ sym (sheet_is_text (flows_in s) s (passes_sheet s k.formed)),
    )

-- a list that passes makes a sheet that passes, and that sheet makes the list
pub list_sheet_list : (l : List ℕ) → ((i : ℕ) → get_or l i 0 < 256) → tests1to4 l ≡ Passed
    → (sheet_tests (text (flows_of l)) ≡ Passed) × (list_of (flows_in (text (flows_of l))) ≡ l)
list_sheet_list l b e =
    let k = listed l e in
    let s = sheet_passes (flows_of l) (text (flows_of l)) (text_is_sheet (flows_of l) k.ruled) in
    let n = length-flows l in (
      rule-answers (text (flows_of l)) s.0 (rw s.1 (few (length (flows_of l)) (omega (arith, k.some), omega (arith, k.most))))
          ∙ rw s.1 ((kept_exactly (flows_of l)).1 k.ruled),
      ap list_of s.1 ∙ list_back l b e,
    )

-- ---- on answers and rooms

-- an accepted sheet, packed into one room and written from there into another that is long enough, is the same bytes
pub sheet_comes_back : (s room room' : List ℕ) (k : ℕ) → list_answer s (length room) ≡ Ok k → length s ≤ length room'
    → let l = take k (room_of_list s room) in
    (sheet_answer l (length room') ≡ Ok (length s)) × (sheet_room l room' ≡ s ++ drop (length s) room')
sheet_comes_back s room room' k e h =
    let front = written_front (sheet_tests s) (list_of (flows_in s)) room k e in
    let back = sheet_list_sheet s front.0 in
    rw (front.1, back.1, back.0)
    (let ends = ends-written Passed s room' (length s) (s ++ drop (length s) room') refl h refl refl in (sym ends.0, sym ends.1))

-- an accepted packed list, written as a sheet into one room and packed from there into another that is long enough, is the same bytes
pub list_comes_back : (l room room' : List ℕ) (k : ℕ) → ((i : ℕ) → get_or l i 0 < 256) → sheet_answer l (length room) ≡ Ok k → length l ≤ length room'
    → let s = take k (sheet_room l room) in
    (list_answer s (length room') ≡ Ok (length l)) × (room_of_list s room' ≡ l ++ drop (length l) room')
list_comes_back l room room' k b e h =
    let front = written_front (tests1to4 l) (text (flows_of l)) room k e in
    let back = list_sheet_list l b front.0 in
    rw (front.1, back.1, back.0)
    (let ends = ends-written Passed l room' (length l) (l ++ drop (length l) room') refl h refl refl in (sym ends.0, sym ends.1))
