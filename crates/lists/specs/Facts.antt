-- Document 01's "Flows, frame and cycle": what a list's flows say together. Assumes nothing.
use Rattle.std.specs.Prelude.{Bool, List, [], ◌∷◌, ℕ, ◌*◌, ◌/◌, ◌%◌, max, min, eqb}
use Rattle.logic.specs.Lists.{sum}
use Rattle.flows.specs.declared.flow.Flow.{Flow}
use Rattle.lists.specs.declared.facts.Facts.{Facts}

-- the slots that each grant of a flow takes
unfoldable pub occupies : Flow → ℕ
occupies f = f.size

-- "of any two intervals the smaller divides the larger"
unfoldable pub related : ℕ → ℕ → Bool
related a b = eqb (max a b % min a b) 0

-- "the largest is the cycle"
unfoldable pub cycle : List Flow → ℕ
cycle [] = 0
cycle (f ∷ fs) = max f.interval (cycle fs)

-- the smallest of i and the intervals
unfoldable pub least : ℕ → List Flow → ℕ
least i [] = i
least i (f ∷ fs) = min f.interval (least i fs)

-- "the smallest is the frame"
unfoldable pub frame : List Flow → ℕ
frame fs = least (cycle fs) fs

-- "a flow has cycle / interval grants in a cycle"
unfoldable pub grants_of : ℕ → Flow → ℕ
grants_of c f = c / f.interval

-- the grants of all flows in a cycle
unfoldable pub grants : List Flow → ℕ
grants fs = sum (grants_of (cycle fs)) fs

-- "the load is the sum of size × (cycle / interval)"
unfoldable pub load : List Flow → ℕ
load fs = sum (λ f. occupies f * grants_of (cycle fs) f) fs

-- the four together
unfoldable pub facts_of : List Flow → Facts
facts_of fs = record { cycle = cycle fs; frame = frame fs; grants = grants fs; load = load fs }
