-- Document 02, L1: live add of one flow to a list and a table that passes: its tests in their order, the new list, the new table,
-- the answer and both rooms. Assumes nothing.
use Rattle.std.specs.Prelude.{None, Some, Ok, Err, ◌&&◌, List, [], ◌∷◌, ◌++◌, ℕ, ◌+◌, leb, length}
use Rattle.flows.specs.declared.flow.Flow.{Flow}
use Rattle.refusals.specs.declared.Refusal.TheVariants.{Room, OutsideSpan, NoOffset}
use Rattle.refusals.specs.Results.{Checked, Passed, Refused, Written}
use Rattle.refusals.specs.Tests.{◌⟫◌, unless}
use Rattle.refusals.specs.Answers.{written}
use Rattle.lists.specs.Lists.{place, flows_of, list_of}
use Rattle.lists.specs.Facts.{cycle, frame, grants_of}
use Rattle.lists.specs.Tests.{test3, test4, test5, test6, test7}
use Rattle.tables.specs.declared.packed.Grant.{Grant}
use Rattle.tables.specs.Tables.{place as table_place, grants_of as grants_in, table_of}
use Rattle.law.specs.Check.{check}
use Rattle.offsets.specs.Offsets.{new_grants, offset, joined}

-- "the new list, with the new flow as its last record"
unfoldable pub with_new : List Flow → Flow → List Flow
with_new fs f = fs ++ (f ∷ [])

-- 21: interval below the frame or over the cycle
unfoldable pub test21 : List Flow → Flow → Checked
test21 fs f = unless (leb (frame fs) f.interval && leb f.interval (cycle fs)) OutsideSpan

-- 3 to 6 on the new list, 21, and 7 on the new list
unfoldable pub new_tests : List Flow → Flow → Checked
new_tests fs f =
    let new = with_new fs f in
    test3 (length new) ⟫ test4 new ⟫ test5 new ⟫ test6 new ⟫ test21 fs f ⟫ test7 new

-- the bytes of the new list
unfoldable pub list_bytes : List Flow → Flow → ℕ
list_bytes fs f = place (length (with_new fs f))

-- the bytes of the new table: a record more for each of the new flow's grants
unfoldable pub table_bytes : List Flow → List Grant → Flow → ℕ
table_bytes fs gs f = table_place (length gs + grants_of (cycle fs) f)

-- 9: either room to write is too short, the list's of n bytes or the table's of m
unfoldable pub test9 : List Flow → List Grant → Flow → ℕ → ℕ → Checked
test9 fs gs f n m = unless (leb (list_bytes fs f) n && leb (table_bytes fs gs f) m) Room

-- 22: no offset at which the new flow fits
unfoldable pub test22 : List Flow → List Grant → Flow → Checked
test22 fs gs f = elim (offset fs gs f) [ None ↦ Refused NoOffset | Some o ↦ Passed ]

-- all tests in their order: the old list and table first, for rooms of n and m bytes
unfoldable pub add_tests : List ℕ → List ℕ → Flow → ℕ → ℕ → Checked
add_tests l t f n m = check l t ⟫ new_tests (flows_of l) f ⟫ test9 (flows_of l) (grants_in t) f n m ⟫ test22 (flows_of l) (grants_in t) f

-- the offset that is found; 0 where there is none
unfoldable pub offset_found : List Flow → List Grant → Flow → ℕ
offset_found fs gs f = elim (offset fs gs f) [ None ↦ 0 | Some o ↦ o ]

-- the new list
unfoldable pub new_list : List ℕ → Flow → List ℕ
new_list l f = list_of (with_new (flows_of l) f)

-- the grants of the new table, for the offset o
unfoldable pub new_table_grants : List ℕ → List ℕ → Flow → ℕ → List Grant
new_table_grants l t f o = joined (new_grants (cycle (flows_of l)) f o) (grants_in t)

-- the new table, for the offset o
unfoldable pub new_table : List ℕ → List ℕ → Flow → ℕ → List ℕ
new_table l t f o = table_of (cycle (flows_of l)) (frame (flows_of l)) (new_table_grants l t f o)

-- the table with the flow at the offset that is found
unfoldable pub table_added : List ℕ → List ℕ → Flow → List ℕ
table_added l t f = new_table l t f (offset_found (flows_of l) (grants_in t) f)

-- the answer, for rooms of n and m bytes: the offset that is found
unfoldable pub add_answer : List ℕ → List ℕ → Flow → ℕ → ℕ → Written
add_answer l t f n m = elim (add_tests l t f n m) [ Ok _ ↦ Ok (offset_found (flows_of l) (grants_in t) f) | Err r ↦ Err r ]

-- the list's room afterwards, where the table's has m bytes
unfoldable pub room_of_list : List ℕ → List ℕ → Flow → List ℕ → ℕ → List ℕ
room_of_list l t f room m = written (add_tests l t f (length room) m) (new_list l f) room

-- the table's room afterwards, where the list's has n bytes
unfoldable pub room_of_table : List ℕ → List ℕ → Flow → ℕ → List ℕ → List ℕ
room_of_table l t f n room = written (add_tests l t f n (length room)) (table_added l t f) room
