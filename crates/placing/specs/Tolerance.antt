-- The premise of demand 3: "each flow tolerates at least the sum, over every longer interval, of that interval's largest size less
-- one". Assumes nothing.
use Rattle.std.specs.Prelude.{true, false, List, [], ◌∷◌, ℕ, zero, suc, ◌+◌, ◌-◌, ◌≤◌, max, eqb}
use Rattle.logic.specs.Lists.{All}
use Rattle.flows.specs.declared.flow.Flow.{Flow}
use Rattle.lists.specs.Facts.{occupies, cycle}

-- the largest size of the flows with interval i; 0 where no flow has it
unfoldable pub largest : ℕ → List Flow → ℕ
largest i [] = 0
largest i (f ∷ fs) = elim (eqb f.interval i) [ true ↦ max (occupies f) (largest i fs) | false ↦ largest i fs ]

-- the sum, over the intervals i + 1, .., i + n, of the largest size less one
unfoldable pub above : List Flow → ℕ → ℕ → ℕ
above fs i zero = 0
above fs i (suc n) = (largest (suc i) fs - 1) + above fs (suc i) n

-- the sum over every interval of the list that is longer than i
unfoldable pub need : List Flow → ℕ → ℕ
need fs i = above fs i (cycle fs - i)

-- each flow tolerates at least its sum
abbrev pub Tolerant : List Flow → Type 0
Tolerant fs = All (λ f. need fs f.interval ≤ f.jitter) fs
