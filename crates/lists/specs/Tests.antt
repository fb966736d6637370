-- Document 01's tests 1 to 7 of a packed list. Assumes nothing.
use Rattle.std.specs.Prelude.{Bool, ◌&&◌, not, List, [], map, ℕ, ◌/◌, leb, eqb, length, get_or}
use Rattle.logic.specs.Lists.{every}
use Rattle.flows.specs.declared.flow.Flow.{Flow}
use Rattle.logic.specs.Numbers.{among}
use Rattle.flows.specs.Flows.{keeps}
use Rattle.refusals.specs.declared.Refusal.TheVariants.{Length, Head, Count, Field, UsedNumber, Unrelated, Limits}
use Rattle.refusals.specs.Results.{Checked}
use Rattle.refusals.specs.Tests.{◌⟫◌, unless, lowest, against}
use Rattle.lists.specs.Lists.{head_of, count, place, flows_of}
use Rattle.lists.specs.Facts.{related, cycle, frame, grants}

-- 1: list under 4 bytes
unfoldable pub test1 : List ℕ → Checked
test1 l = unless (leb 4 (length l)) Length

-- 2: list edition, kind or spare bits wrong
unfoldable pub test2 : List ℕ → Checked
test2 l = unless (eqb (get_or (head_of l) 0 0) 1 && (eqb (get_or (head_of l) 1 0) 1 && eqb (get_or (head_of l) 2 0) 0)) Head

-- 3: count 0 or over 128
unfoldable pub test3 : ℕ → Checked
test3 n = unless (among 1 128 n) Count

-- 1, after 2 and 3: not its exact length, 4 + 6 × count bytes
unfoldable pub test1exact : List ℕ → Checked
test1exact l = unless (eqb (length l) (place (count l))) Length

-- 4: a field breaks its rule
unfoldable pub test4 : List Flow → Checked
test4 fs = lowest Field 1 (map keeps fs)

-- no earlier record has the flow's number
unfoldable pub new_number : List Flow → Flow → Bool
new_number seen f = every (λ g. not (eqb g.number f.number)) seen

-- 5: number already used by an earlier record
unfoldable pub test5 : List Flow → Checked
test5 fs = lowest UsedNumber 1 (against new_number [] fs)

-- the flow's interval is related to that of every earlier record
unfoldable pub related_interval : List Flow → Flow → Bool
related_interval seen f = every (λ g. related g.interval f.interval) seen

-- 6: interval unrelated to an earlier one
unfoldable pub test6 : List Flow → Checked
test6 fs = lowest Unrelated 1 (against related_interval [] fs)

-- 7: over 256 frames or over 1,024 grants
unfoldable pub test7 : List Flow → Checked
test7 fs = unless (leb (cycle fs / frame fs) 256 && leb (grants fs) 1024) Limits

-- tests 1 to 4, in their order
unfoldable pub tests1to4 : List ℕ → Checked
tests1to4 l = test1 l ⟫ test2 l ⟫ test3 (count l) ⟫ test1exact l ⟫ test4 (flows_of l)

-- tests 1 to 5, in their order
unfoldable pub tests1to5 : List ℕ → Checked
tests1to5 l = tests1to4 l ⟫ test5 (flows_of l)

-- tests 1 to 7, in their order
unfoldable pub tests1to7 : List ℕ → Checked
tests1to7 l = tests1to4 l ⟫ test5 (flows_of l) ⟫ test6 (flows_of l) ⟫ test7 (flows_of l)
