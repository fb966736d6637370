-- Document 01's tests 13 to 18, and the whole check of a table against its list. Assumes nothing.
use Rattle.std.specs.Prelude.{Bool, true, false, ◌&&◌, List, [], ◌∷◌, map, ℕ, ◌+◌, ◌-◌, leb, ltb, eqb, length}
use Rattle.std.proofs.Math.Option.{Option, none, some}
use Rattle.flows.specs.declared.flow.Flow.{Flow}
use Rattle.flows.specs.Flows.{no_flow}
use Rattle.refusals.specs.declared.Refusal.TheVariants.{OtherCycle, UnknownFlow, GrantCount, Timing, Overlap, PastCycle}
use Rattle.refusals.specs.Results.{Checked}
use Rattle.refusals.specs.Tests.{◌⟫◌, unless, lowest, against, after}
use Rattle.lists.specs.Lists.{flows_of}
use Rattle.lists.specs.Facts.{occupies, cycle, frame, grants_of}
use Rattle.lists.specs.Tests.{tests1to7}
use Rattle.tables.specs.declared.packed.Grant.{Grant}
use Rattle.tables.specs.Tables.{cycle_of, frame_of, grants_of as grants_in}
use Rattle.tables.specs.Form.{form_tests}

-- the list has a flow of that number
unfoldable pub known : List Flow → ℕ → Bool
known [] x = false
known (f ∷ fs) x = elim (eqb f.number x) [ true ↦ true | false ↦ known fs x ]

-- the flow of that number, or no flow
unfoldable pub look : List Flow → ℕ → Flow
look [] x = no_flow
look (f ∷ fs) x = elim (eqb f.number x) [ true ↦ f | false ↦ look fs x ]

-- the slots that a grant takes
unfoldable pub slots : List Flow → Grant → ℕ
slots fs g = occupies (look fs g.flow)

-- "the nominal time of a record is start less late": where the first round starts at z, which is 0 in this edition
abbrev pub nominal : ℕ → Grant → ℕ
nominal z g = (z + g.start) - g.late

-- the grants of one flow, in table order
unfoldable pub to : ℕ → List Grant → List Grant
to x [] = []
to x (g ∷ gs) = elim (eqb g.flow x) [ true ↦ g ∷ to x gs | false ↦ to x gs ]

-- 13: cycle or frame not the list's
unfoldable pub test13 : List Flow → List ℕ → Checked
test13 fs t = unless (eqb (cycle_of t) (cycle fs) && eqb (frame_of t) (frame fs)) OtherCycle

-- the grant's flow is in the list
unfoldable pub listed : List Flow → Grant → Bool
listed fs g = known fs g.flow

-- 14: flow not in the list
unfoldable pub test14 : List Flow → List Grant → Checked
test14 fs gs = lowest UnknownFlow 1 (map (listed fs) gs)

-- the flow has cycle / interval grants
unfoldable pub counted : List Flow → List Grant → Flow → Bool
counted fs gs f = eqb (length (to f.number gs)) (grants_of (cycle fs) f)

-- 15: wrong number of grants; the place is the flow's list record
unfoldable pub test15 : List Flow → List Grant → Checked
test15 fs gs = lowest GrantCount 1 (map (counted fs gs) fs)

-- the nominal time of the flow's last grant among those seen, the nearest first
unfoldable pub last : ℕ → ℕ → List Grant → Option ℕ
last z x [] = none
last z x (g ∷ seen) = elim (eqb g.flow x) [ true ↦ some (nominal z g) | false ↦ last z x seen ]

-- a nominal time n after the flow's last one: the first is below the interval i, each other a step of it
unfoldable pub steps : ℕ → Option ℕ → ℕ → Bool
steps i none n = ltb n i
steps i (some p) n = eqb n (p + i)

-- the grant is late by no more than its jitter and its start, and its nominal time steps from the flow's last one
unfoldable pub timely : ℕ → List Flow → List Grant → Grant → Bool
timely z fs seen g =
    elim (leb g.late (look fs g.flow).jitter) [
      | true ↦ elim (leb g.late (z + g.start)) [ true ↦ steps (look fs g.flow).interval (last z g.flow seen) (nominal z g) | false ↦ false ]
      | false ↦ false
    ]

-- 16: late over the jitter or over the start, first nominal time not below the interval, or a wrong step from the flow's last one
unfoldable pub test16 : List Flow → List Grant → Checked
test16 fs gs = lowest Timing 1 (against (timely 0 fs) [] gs)

-- the grant before ends where this one starts, or earlier
unfoldable pub clears : List Flow → Grant → Grant → Bool
clears fs p g = leb (p.start + slots fs p) g.start

-- 17: overlaps the record before
unfoldable pub test17 : List Flow → List Grant → Checked
test17 fs gs = lowest Overlap 1 (against (after (clears fs)) [] gs)

-- the grant ends inside the cycle
unfoldable pub ends : List Flow → Grant → Bool
ends fs g = leb (g.start + slots fs g) (cycle fs)

-- 18: ends after the cycle
unfoldable pub test18 : List Flow → List Grant → Checked
test18 fs gs = lowest PastCycle 1 (map (ends fs) gs)

-- tests 14 to 18, in their order
unfoldable pub tests14to18 : List Flow → List Grant → Checked
tests14to18 fs gs = test14 fs gs ⟫ test15 fs gs ⟫ test16 fs gs ⟫ test17 fs gs ⟫ test18 fs gs

-- tests 13 to 18, in their order: the table t against the flows fs of its list
unfoldable pub law_tests : List Flow → List ℕ → Checked
law_tests fs t = test13 fs t ⟫ tests14to18 fs (grants_in t)

-- the check of a table t against its list l: the list by 1 to 7, the table's form by 11 and 12, and 13 to 18
unfoldable pub check : List ℕ → List ℕ → Checked
check l t = tests1to7 l ⟫ form_tests t ⟫ law_tests (flows_of l) t
