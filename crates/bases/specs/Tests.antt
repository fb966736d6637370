-- Document 02, L3: "Refusals, after 1 to 5: 27 base 0 or over 4,096, 28 interval below the base (record), then 4 on the new list, 9."
-- Assumes nothing.
use Rattle.std.specs.Prelude.{Bool, List, map, ℕ, leb}
use Rattle.logic.specs.Numbers.{among}
use Rattle.flows.specs.declared.flow.Flow.{Flow}
use Rattle.refusals.specs.declared.Refusal.TheVariants.{NoBase, BelowBase}
use Rattle.refusals.specs.Results.{Checked, Written}
use Rattle.refusals.specs.Tests.{◌⟫◌, unless, lowest}
use Rattle.refusals.specs.Answers.{answer, written}
use Rattle.lists.specs.Lists.{flows_of, list_of}
use Rattle.lists.specs.Tests.{test4, tests1to5}
use Rattle.bases.specs.Rounding.{rounded_flows}

-- 27: base 0 or over 4,096
unfoldable pub test27 : ℕ → Checked
test27 c = unless (among 1 4096 c) NoBase

-- the flow's interval is not below the base
unfoldable pub reaches : ℕ → Flow → Bool
reaches c f = leb c f.interval

-- 28: interval below the base
unfoldable pub test28 : ℕ → List Flow → Checked
test28 c fs = lowest BelowBase 1 (map (reaches c) fs)

-- all tests but 9, in their order: the old list by 1 to 5, then 27, 28, and 4 on the new list
unfoldable pub round_tests : ℕ → List ℕ → Checked
round_tests c l = tests1to5 l ⟫ test27 c ⟫ test28 c (flows_of l) ⟫ test4 (rounded_flows c (flows_of l))

-- the answer, for a room of n bytes
abbrev pub round_answer : ℕ → List ℕ → ℕ → Written
round_answer c l n = answer (round_tests c l) (list_of (rounded_flows c (flows_of l))) n

-- and the room afterwards
abbrev pub round_room : ℕ → List ℕ → List ℕ → List ℕ
round_room c l room = written (round_tests c l) (list_of (rounded_flows c (flows_of l))) room
