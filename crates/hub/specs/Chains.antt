-- The tests of every operation, one after the other as documents 01 and 02 list them. Assumes nothing.
use Rattle.std.specs.Prelude.{List, [], ◌∷◌, ◌++◌, ℕ, leb, length}
use Rattle.flows.specs.declared.flow.Flow.{Flow}
use Rattle.refusals.specs.declared.Refusal.TheVariants.{Room}
use Rattle.refusals.specs.Results.{Checked}
use Rattle.refusals.specs.Tests.{unless}
use Rattle.lists.specs.Lists.{count, flows_of, list_of}
use Rattle.sheets.specs.Texts.{text}
use Rattle.sheets.specs.Readings.{flows_in}
use Rattle.sheets.specs.Tests.{test20}
use Rattle.lists.specs.Tests.{test1, test2, test3, test1exact, test4, test5, test6, test7}
use Rattle.tables.specs.Tables.{grants_of}
use Rattle.tables.specs.Form.{test11, test12}
use Rattle.windows.specs.Window.{test19}
use Rattle.law.specs.Check.{test13, test14, test15, test16, test17, test18}
use Rattle.planner.specs.Plan.{test8, test9, test10}
use Rattle.offsets.specs.Adding.{with_new, test21, test9 as both_rooms, test22}
use Rattle.settings.specs.Slots.{Channel, flows_asked}
use Rattle.settings.specs.Tests.{test26, test23, test24, test25}
use Rattle.bases.specs.Rounding.{rounded_flows}
use Rattle.bases.specs.Tests.{test27, test28}

-- 1 to 4 of a list
abbrev pub chain1to4 : List ℕ → List Checked
chain1to4 l = test1 l ∷ test2 l ∷ test3 (count l) ∷ test1exact l ∷ test4 (flows_of l) ∷ []

-- 1 to 5 of a list
abbrev pub chain1to5 : List ℕ → List Checked
chain1to5 l = chain1to4 l ++ (test5 (flows_of l) ∷ [])

-- 1 to 7 of a list
abbrev pub chain1to7 : List ℕ → List Checked
chain1to7 l = chain1to4 l ++ (test5 (flows_of l) ∷ test6 (flows_of l) ∷ test7 (flows_of l) ∷ [])

-- "Planning tests 1 to 10": a list, for a room of n bytes
abbrev pub plan_chain : List ℕ → ℕ → List Checked
plan_chain l n = chain1to7 l ++ (test8 (flows_of l) ∷ test9 (flows_of l) n ∷ test10 (flows_of l) ∷ [])

-- 11 and 12 of a table
abbrev pub form_chain : List ℕ → List Checked
form_chain t = test11 t ∷ test12 (grants_of t) ∷ []

-- 13 to 18 of a table against its list
abbrev pub law_chain : List ℕ → List ℕ → List Checked
law_chain l t =
    test13 (flows_of l) t ∷ test14 (flows_of l) (grants_of t) ∷ test15 (flows_of l) (grants_of t) ∷ test16 (flows_of l) (grants_of t)
    ∷ test17 (flows_of l) (grants_of t) ∷ test18 (flows_of l) (grants_of t) ∷ []

-- "The check tests the list by 1 to 7, then 11 to 18"
abbrev pub check_chain : List ℕ → List ℕ → List Checked
check_chain l t = chain1to7 l ++ (form_chain t ++ law_chain l t)

-- "The window tests 11, 12, 19"
abbrev pub window_chain : List ℕ → ℕ → ℕ → List Checked
window_chain t a b = form_chain t ++ (test19 t a b ∷ [])

-- 9: room to write is too short for these bytes
unfoldable pub room_test : List ℕ → ℕ → Checked
room_test bs n = unless (leb (length bs) n) Room

-- "Sheet to list tests 20, 3, 4, 9": a sheet, for a room of n bytes
abbrev pub sheet_chain : List ℕ → ℕ → List Checked
sheet_chain s n = test20 s ∷ test3 (length (flows_in s)) ∷ test4 (flows_in s) ∷ room_test (list_of (flows_in s)) n ∷ []

-- "list to sheet tests 1 to 4, 9": a list, for a room of n bytes
abbrev pub list_chain : List ℕ → ℕ → List Checked
list_chain l n = chain1to4 l ++ (room_test (text (flows_of l)) n ∷ [])

-- "3 to 6 on the new list, 21 interval below the frame or over the cycle, 7 on the new list": a flow more than these
abbrev pub new_chain : List Flow → Flow → List Checked
new_chain fs f =
    test3 (length (with_new fs f)) ∷ test4 (with_new fs f) ∷ test5 (with_new fs f) ∷ test6 (with_new fs f) ∷ test21 fs f ∷ test7 (with_new fs f) ∷ []

-- live add, "old list and table first", then those on the new list, "9 for either room, 22 exactly when no such offset exists": for
-- rooms of n and m bytes
abbrev pub add_chain : List ℕ → List ℕ → Flow → ℕ → ℕ → List Checked
add_chain l t f n m =
    check_chain l t ++ (new_chain (flows_of l) f ++ (both_rooms (flows_of l) (grants_of t) f n m ∷ test22 (flows_of l) (grants_of t) f ∷ []))

-- "26 a channel value of zero comes first, then 23 .., 24 one of the four missing, 25 interval not whole, then 3 to 6 and 9": modem
-- settings, for a room of n bytes
abbrev pub settings_chain : Channel → List ℕ → ℕ → List Checked
settings_chain ch s n =
    let fs = flows_asked ch s in
    test26 ch ∷ test23 s ∷ test24 s ∷ test25 ch s ∷ test3 (length fs) ∷ test4 fs ∷ test5 fs ∷ test6 fs ∷ room_test (list_of fs) n ∷ []

-- "after 1 to 5: 27 base 0 or over 4,096, 28 interval below the base (record), then 4 on the new list, 9": a list and
-- a base, for a room of n bytes
abbrev pub round_chain : ℕ → List ℕ → ℕ → List Checked
round_chain c l n =
    let new = rounded_flows c (flows_of l) in
    chain1to5 l ++ (test27 c ∷ test28 c (flows_of l) ∷ test4 new ∷ room_test (list_of new) n ∷ [])
