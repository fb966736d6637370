-- A list with one flow more. Assumes nothing.
use mathlib.Core.Path.{◌≡◌, ap, ◌∙◌}
use mathlib.Core.List.{List, [], ◌∷◌, ◌++◌}
use Prim.Native.Nat.{ℕ, ◌+◌, ◌≤◌, max, min}
use native.Mathlib.Omega.{arith}
use Rattle.logic.specs.Lists.{All, sum}
use Rattle.logic.proofs.Appends.{all-behind, sum-append}
use Rattle.flows.specs.declared.flow.Flow.{Flow}
use Rattle.lists.specs.Facts.{cycle, least, frame, grants_of, grants}
use Rattle.lists.specs.Accepted.{Distinct}

cycle-last : (fs : List Flow) (f : Flow) → cycle (fs ++ (f ∷ [])) ≡ max (cycle fs) f.interval
unfolding cycle
cycle-last [] f = omega arith
cycle-last (g ∷ fs) f = omega (arith, cycle-last fs f)

least-last : (i : ℕ) (fs : List Flow) (f : Flow) → least i (fs ++ (f ∷ [])) ≡ min (least i fs) f.interval
unfolding least
least-last i [] f = omega arith
least-last i (g ∷ fs) f = omega (arith, least-last i fs f)

-- an interval from the frame to the cycle changes neither
module _ (fs : List Flow) (f : Flow) (low : frame fs ≤ f.interval) (high : f.interval ≤ cycle fs) where
  pub cycle_same : cycle (fs ++ (f ∷ [])) ≡ cycle fs
  cycle_same = omega (arith, cycle-last fs f)

  pub frame_same : frame (fs ++ (f ∷ [])) ≡ frame fs
  unfolding frame
  frame_same = ap (λ (c : ℕ). least c (fs ++ (f ∷ []))) cycle_same ∙ omega (arith, least-last (cycle fs) fs f, low)

  -- and adds the flow's grants
  pub grants-more : grants (fs ++ (f ∷ [])) ≡ grants fs + grants_of (cycle fs) f
  unfolding grants sum
  grants-more =
      ap (λ (c : ℕ). sum (grants_of c) (fs ++ (f ∷ []))) cycle_same ∙ omega (arith, sum-append (grants_of (cycle fs)) fs (f ∷ []))

-- no flow before the last has its number
pub last-new : (fs : List Flow) (f : Flow) → Distinct (fs ++ (f ∷ [])) → All (λ g. g.number ≡ f.number → ⊥) fs
last-new [] f d = tt
last-new (g ∷ fs) f d = (all-behind (λ h. g.number ≡ h.number → ⊥) fs f [] d.0, last-new fs f d.1)
