-- What live add makes of a list and a table that passes, in document 02's words (L1). Assumes nothing.
use Rattle.std.specs.Prelude.{◌≡◌, List, [], ◌∷◌, ◌++◌, ℕ, ◌<◌}
use Rattle.logic.specs.Lists.{All}
use Rattle.flows.specs.declared.flow.Flow.{Flow}
use Rattle.refusals.specs.Results.{Passed}
use Rattle.lists.specs.Lists.{flows_of}
use Rattle.lists.specs.Facts.{cycle}
use Rattle.tables.specs.Tables.{grants_of}
use Rattle.law.specs.Check.{to, check}
use Rattle.law.specs.Lawful.{Lawful}
use Rattle.offsets.specs.Offsets.{new_grants, others}
use Rattle.offsets.specs.Adding.{new_table}

-- "without moving anyone, all with late 0": the grants of the other flows stand in the table t' as they stood in t, and none of the
-- new flow's grants is late
pub record Stands (t : List ℕ) (f : Flow) (t' : List ℕ) : Type 0 where
  pub others_stand : others f.number (grants_of t') ≡ grants_of t
  pub none_late : All (λ g. g.late ≡ 0) (to f.number (grants_of t'))

-- the list l' and the table t' that come of adding the flow f at the offset o to the list l and the table t
pub record NewPair (l t : List ℕ) (f : Flow) (o : ℕ) (l' t' : List ℕ) : Type 0 where
  -- "the new list, with the new flow as its last record"
  pub new_last : flows_of l' ≡ flows_of l ++ (f ∷ [])
  pub stands : Stands t f t'
  -- the new flow's grants start at the offset and step by its interval through the cycle
  pub own_grants : to f.number (grants_of t') ≡ new_grants (cycle (flows_of l)) f o
  -- "Demand 2 holds for the new pair"
  pub passes : check l' t' ≡ Passed
  -- "the smallest offset from 0 to interval less one": no smaller one gives a lawful table
  pub below : o < f.interval
  pub smallest : (j : ℕ) → j < o → Lawful l' (new_table l t f j) → ⊥
