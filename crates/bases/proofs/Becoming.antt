-- The rounded flow is what document 02 says a flow becomes, and no other flow is. Assumes nothing.
use Rattle.std.proofs.Common.{◌≡◌, refl, ap, ap₂, ◌∙◌, List, [], ◌∷◌, ℕ, ◌≤◌, ◌<◌, arith}
use Rattle.logic.specs.Lists.{All}
use Rattle.flows.specs.declared.flow.Flow.{Flow}
use Rattle.flows.specs.Flows.{fields_of, flow_with}
use Rattle.bases.specs.Rounding.{rounded, rounded_flow, rounded_flows}
use Rattle.bases.specs.Becomes.{Becomes, EachBecomes}
use Rattle.bases.proofs.Largest.{largest-one, largest-reaches, interval-reaches, rounded-largest}

-- ---- one flow

-- a flow whose interval is not below the base becomes the rounded one
pub becomes : (c : ℕ) (f : Flow) → 0 < c → c ≤ f.interval → Becomes c f (rounded_flow c f)
unfolding rounded_flow
becomes c f pos h =
    let l = rounded-largest c f.interval pos h in
    record {
      same_number = refl;
      new_interval = l;
      same_size = refl;
      jitter_within = omega arith;
      jitter_capped = omega (arith, pos, largest-reaches c f.interval (rounded c f.interval) l);
      jitter_most = λ j a b. omega (arith, a, b);
    }

-- a flow becomes one flow only
same_flow : (c : ℕ) (f g h : Flow) → Becomes c f g → Becomes c f h → g ≡ h
same_flow c f g h p q =
    let number : g.number ≡ h.number = cc in
    let size : g.size ≡ h.size = cc in
    let interval : g.interval ≡ h.interval = largest-one c f.interval g.interval h.interval p.new_interval q.new_interval in
    let up : g.jitter ≤ h.jitter = q.jitter_most g.jitter p.jitter_within (rw (← interval) p.jitter_capped) in
    let down : h.jitter ≤ g.jitter = p.jitter_most h.jitter q.jitter_within (rw interval q.jitter_capped) in
    let jitter : g.jitter ≡ h.jitter = omega (arith, up, down) in
    let fields : fields_of g ≡ fields_of h = cc in
    ap flow_with fields

-- and where it becomes any, its interval is not below the base
becomes_reaches : (c : ℕ) (f g : Flow) → Becomes c f g → c ≤ f.interval
becomes_reaches c f g b = interval-reaches c f.interval g.interval b.new_interval

-- so it becomes the rounded one or none
pub becomes_one : (c : ℕ) (f g : Flow) → 0 < c → Becomes c f g → g ≡ rounded_flow c f
becomes_one c f g pos b = same_flow c f g (rounded_flow c f) b (becomes c f pos (becomes_reaches c f g b))

-- ---- the flows of a list

module _ (c : ℕ) where
  -- where each interval is not below the base, each flow becomes the rounded one
  pub each_becomes : (fs : List Flow) → 0 < c → All (λ f. c ≤ f.interval) fs → EachBecomes c fs (rounded_flows c fs)
  unfolding rounded_flows
  each_becomes [] pos a = refl
  each_becomes (f ∷ fs) pos a = (rounded_flow c f, rounded_flows c fs, refl, becomes c f pos a.0, each_becomes fs pos a.1)

  -- and no others do
  pub each_one : (fs gs : List Flow) → 0 < c → EachBecomes c fs gs → gs ≡ rounded_flows c fs
  unfolding rounded_flows
  each_one [] gs pos e = e
  each_one (f ∷ fs) gs pos (g, rest, e, b, more) =
      e ∙ ap₂ (λ (x : Flow) (xs : List Flow). x ∷ xs) (becomes_one c f g pos b) (each_one fs rest pos more)

  -- where the flows become any, each interval is not below the base
  pub each_reaches : (fs gs : List Flow) → EachBecomes c fs gs → All (λ f. c ≤ f.interval) fs
  each_reaches [] gs e = tt
  each_reaches (f ∷ fs) gs (g, rest, e, b, more) = (becomes_reaches c f g b, each_reaches fs rest more)
