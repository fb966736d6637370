-- The law: the scheduling rules of document 002, section 2, for a table that repeats every cycle, forever. Assumes nothing.
use Rattle.std.specs.Prelude.{◌≡◌, true, List, ℕ, ◌+◌, ◌-◌, ◌*◌, ◌/◌, ◌%◌, ◌≤◌, ◌<◌, length, get_or}
use Rattle.logic.specs.Lists.{All, Neighbours}
use Rattle.flows.specs.declared.flow.Flow.{Flow}
use Rattle.lists.specs.Facts.{cycle}
use Rattle.tables.specs.declared.packed.Grant.{Grant}
use Rattle.law.specs.Check.{known, slots, to}

-- the grant at a place that the table has not
abbrev pub blank : Grant
blank = record { flow = 0; start = 0; late = 0 }

-- the grant at a place, from 0
abbrev pub nth : List Grant → ℕ → Grant
nth rs k = get_or rs k blank

-- when a grant comes in round i of cycle c; the first round, round 0, starts at z
abbrev pub time : ℕ → ℕ → ℕ → Grant → ℕ
time z c i r = z + i * c + r.start

-- t_k = t + k × interval, the k-th nominal time (k = 0, 1, 2, ..) of a flow with the time reference t
abbrev pub nominal_time : ℕ → Flow → ℕ → ℕ
nominal_time t f k = t + k * f.interval

-- the k-th grant of a flow whose grants in one round are gs
abbrev pub kth : List Grant → ℕ → Grant
kth gs k = nth gs (k % length gs)

-- τ_k, the time of that grant
abbrev pub actual_time : ℕ → ℕ → List Grant → ℕ → ℕ
actual_time z c gs k = time z c (k / length gs) (kth gs k)

-- a flow's grants keep its rule forever
pub record Obeys (z c : ℕ) (gs : List Grant) (f : Flow) : Type 0 where
  -- it has grants
  pub granted : 0 < length gs
  -- the time reference
  pub reference : ℕ
  -- t_k ≤ τ_k ≤ t_k + jitter
  pub within : (k : ℕ) → (nominal_time reference f k ≤ actual_time z c gs k) × (actual_time z c gs k ≤ nominal_time reference f k + f.jitter)
  -- the actual jitter τ_k − t_k is what the record states
  pub stated : (k : ℕ) → (kth gs k).late ≡ actual_time z c gs k - nominal_time reference f k

-- slot x belongs to record r of round i
abbrev pub Holds : ℕ → List Flow → ℕ → ℕ → Grant → Type 0
Holds z fs x i r = (time z (cycle fs) i r ≤ x) × (x < time z (cycle fs) i r + slots fs r)

-- no slot is granted twice
abbrev pub Once : ℕ → List Flow → List Grant → Type 0
Once z fs tab =
    (i j k l x : ℕ) → k < length tab → l < length tab → Holds z fs x i (nth tab k) → Holds z fs x j (nth tab l) → (i ≡ j) × (k ≡ l)

-- the whole law: every record is a listed flow's, every flow's grants keep its rule, no slot is granted twice
pub record Law (z : ℕ) (fs : List Flow) (tab : List Grant) : Type 0 where
  pub listed : All (λ r. known fs r.flow ≡ true) tab
  pub obeyed : All (λ f. Obeys z (cycle fs) (to f.number tab) f) fs
  pub once : Once z fs tab

-- starts strictly rise
abbrev pub Rising : List Grant → Type 0
Rising tab = Neighbours (λ p r. p.start < r.start) tab

-- each grant ends before the next starts
abbrev pub Clear : List Flow → List Grant → Type 0
Clear fs tab = Neighbours (λ p r. p.start + slots fs p ≤ r.start) tab

-- every grant ends inside the cycle
abbrev pub Inside : List Flow → List Grant → Type 0
Inside fs tab = All (λ r. r.start + slots fs r ≤ cycle fs) tab
