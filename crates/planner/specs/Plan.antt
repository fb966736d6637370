-- The plan of a list: document 01's tests 8 to 10, and the table that planning writes. Assumes nothing.
use Rattle.std.specs.Prelude.{List, [], ℕ, leb, length}
use Rattle.flows.specs.declared.flow.Flow.{Flow}
use Rattle.refusals.specs.declared.Refusal.TheVariants.{Overload, Room, NoFrame}
use Rattle.refusals.specs.Results.{Checked, Passed, Refused, Written}
use Rattle.refusals.specs.Tests.{◌⟫◌, unless}
use Rattle.refusals.specs.Answers.{answer, written}
use Rattle.lists.specs.Lists.{flows_of}
use Rattle.lists.specs.Facts.{cycle, frame, grants, load}
use Rattle.lists.specs.Tests.{tests1to7}
use Rattle.tables.specs.declared.packed.Grant.{Grant}
use Rattle.tables.specs.Tables.{place, table_of}
use Rattle.placing.specs.Rule.{done, refused, planned}

-- 8: load over the cycle
unfoldable pub test8 : List Flow → Checked
test8 fs = unless (leb (load fs) (cycle fs)) Overload

-- 9: room to write is too short, for a table of the list's grants
unfoldable pub test9 : List Flow → ℕ → Checked
test9 fs n = unless (leb (place (grants fs)) n) Room

-- 10: no lawful frame
unfoldable pub test10 : List Flow → Checked
test10 fs = elim (planned fs) [ done gs ↦ Passed | refused p ↦ Refused (NoFrame p) ]

-- planning tests 1 to 10, in their order, for a room of n bytes
unfoldable pub plan_tests : List ℕ → ℕ → Checked
plan_tests l n = tests1to7 l ⟫ test8 (flows_of l) ⟫ test9 (flows_of l) n ⟫ test10 (flows_of l)

-- the grants that are planned; none where the list is refused
unfoldable pub grants_planned : List Flow → List Grant
grants_planned fs = elim (planned fs) [ done gs ↦ gs | refused p ↦ [] ]

-- the table of the plan
unfoldable pub plan_table : List ℕ → List ℕ
plan_table l = table_of (cycle (flows_of l)) (frame (flows_of l)) (grants_planned (flows_of l))

-- the answer, for a room of n bytes
unfoldable pub plan_answer : List ℕ → ℕ → Written
plan_answer l n = answer (plan_tests l n) (plan_table l) n

-- the room afterwards
unfoldable pub plan_room : List ℕ → List ℕ → List ℕ
plan_room l room = written (plan_tests l (length room)) (plan_table l) room
