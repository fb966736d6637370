-- Document 01's cases A to F of the planner, and lists that tell its readings apart, computed from the rule, as one list under one
-- claim. Assumes nothing.
use mathlib.Core.Path.{◌≡◌, refl}
use mathlib.Core.List.{List, [], ◌∷◌, ◌++◌}
use Prim.Native.Nat.{ℕ}
use Rattle.logic.specs.Lists.{All, sum}
use Rattle.flows.specs.declared.flow.Flow.{Flow}
use Rattle.lists.specs.Facts.{occupies, cycle, least, frame}
use Rattle.tables.specs.declared.packed.Grant.{Grant}
use Rattle.placing.specs.Rule.{Outcome, done, refused, weight, content, within, lawful, takes, first_lawful, contents, olds, put, group, rep, opened, settle, groups, present, rising, intervals, layout, row, rows, planned}

-- number, size, interval, jitter
abbrev pub flow : ℕ → ℕ → ℕ → ℕ → Flow
flow n s i j = record { number = n; size = s; interval = i; jitter = j }

-- flow, start, late
abbrev grant : ℕ → ℕ → ℕ → Grant
grant f s l = record { flow = f; start = s; late = l }

abbrev plans : List (List Flow × Outcome (List Grant))
plans =
    (flow 1 1 4 2 ∷ flow 2 2 8 0 ∷ flow 3 3 8 0 ∷ [], done (grant 1 0 0 ∷ grant 2 1 0 ∷ grant 3 3 0 ∷ grant 1 6 2 ∷ []))
    ∷ (flow 1 1 4 1 ∷ flow 2 2 8 0 ∷ flow 3 3 8 0 ∷ [], done (grant 1 0 0 ∷ grant 2 1 0 ∷ grant 1 4 0 ∷ grant 3 5 0 ∷ []))
    ∷ (flow 1 1 4 0 ∷ flow 2 4 8 0 ∷ [], refused 2)
    ∷ (flow 1 1 4 1 ∷ flow 2 4 8 0 ∷ [], done (grant 1 0 0 ∷ grant 2 1 0 ∷ grant 1 5 1 ∷ []))
    ∷ (flow 1 1 4 3 ∷ flow 2 6 8 0 ∷ [], done (grant 1 0 0 ∷ grant 2 1 0 ∷ grant 1 7 3 ∷ []))
    ∷ (flow 1 1 4 2 ∷ flow 2 6 8 0 ∷ [], refused 2)
    ∷ (
      flow 1 1 4 3 ∷ flow 2 2 8 2 ∷ flow 3 3 16 0 ∷ [],
      done (grant 1 0 0 ∷ grant 2 1 0 ∷ grant 3 3 0 ∷ grant 1 6 2 ∷ grant 1 8 0 ∷ grant 2 9 0 ∷ grant 1 12 0 ∷ []),
    )
    ∷ (flow 1 1 11 2 ∷ flow 2 8 44 0 ∷ flow 3 8 44 0 ∷ flow 4 6 44 0 ∷ flow 5 6 44 0 ∷ flow 6 6 44 0 ∷ flow 7 6 44 0 ∷ [], refused 7)
    ∷ []

-- a flow whose nominal time is not where its frame starts; a push that runs through a full frame to a grant that bears none; and a
-- flow without jitter that a later one of its own group pushes
abbrev readings : List (List Flow × Outcome (List Grant))
readings = (
  flow 1 1 4 3 ∷ flow 2 4 8 0 ∷ flow 3 1 8 0 ∷ flow 4 1 16 0 ∷ [],
  done (grant 1 0 0 ∷ grant 2 1 0 ∷ grant 1 5 1 ∷ grant 3 6 0 ∷ grant 4 7 0 ∷ grant 1 8 0 ∷ grant 2 9 0 ∷ grant 1 13 1 ∷ grant 3 14 0 ∷ []),
)
    ∷ (flow 1 1 4 2 ∷ flow 2 3 8 2 ∷ flow 3 1 8 0 ∷ flow 4 3 16 0 ∷ [], refused 4)
    ∷ (
      flow 1 1 4 1 ∷ flow 2 2 8 1 ∷ flow 3 3 16 0 ∷ flow 4 2 16 0 ∷ [],
      done (grant 1 0 0 ∷ grant 2 1 0 ∷ grant 4 3 0 ∷ grant 1 5 1 ∷ grant 3 6 0 ∷ grant 1 9 1 ∷ grant 2 10 1 ∷ grant 1 12 0 ∷ []),
    )
    ∷ []

pub worked : All (λ p. planned p.0 ≡ p.1) (plans ++ readings)
unfolding sum occupies cycle least frame weight content within lawful takes first_lawful contents olds put group rep opened settle groups present rising intervals layout row rows planned
worked = (refl, (refl, (refl, (refl, (refl, (refl, (refl, (refl, (refl, (refl, (refl, tt)))))))))))
