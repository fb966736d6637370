-- What tests 1 to 7 leave of a list: the premise of every theorem about planning and about tables. Assumes nothing.
use Rattle.std.specs.Prelude.{◌≡◌, true, List, [], ◌∷◌, ◌/◌, ◌≤◌, ◌<◌, length}
use Rattle.logic.specs.Lists.{All}
use Rattle.flows.specs.declared.flow.Flow.{Flow}
use Rattle.flows.specs.Flows.{keeps}
use Rattle.lists.specs.Facts.{related, cycle, frame, grants}

-- no number is used twice
abbrev pub Distinct : List Flow → Type 0
Distinct [] = Unit
Distinct (f ∷ fs) = All (λ g. f.number ≡ g.number → ⊥) fs × Distinct fs

-- of any two intervals the smaller divides the larger
abbrev pub Related : List Flow → Type 0
Related [] = Unit
Related (f ∷ fs) = All (λ g. related f.interval g.interval ≡ true) fs × Related fs

pub record Accepted (fs : List Flow) : Type 0 where
  -- "a list has 1 to 128 flows"
  pub filled : 0 < length fs
  pub few : length fs ≤ 128
  -- every flow keeps its rule
  pub ruled : All (λ f. keeps f ≡ true) fs
  pub distinct : Distinct fs
  pub related : Related fs
  -- "at most 256 frames in a cycle and at most 1,024 grants in a cycle"
  pub frames_le : cycle fs / frame fs ≤ 256
  pub grants_le : grants fs ≤ 1024
