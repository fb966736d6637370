-- Rounding twice with one base changes nothing more. Assumes nothing.
use Rattle.std.proofs.Common.{◌≡◌, refl, ap₂, List, [], ◌∷◌, ℕ, zero, suc, ◌-◌, min, arith}
use Rattle.logic.proofs.Tests.{by_lt}
use Rattle.flows.specs.declared.flow.Flow.{Flow}
use Rattle.bases.specs.Rounding.{rounded, rounded_flow, rounded_flows}
use Rattle.bases.specs.Becomes.{Largest}
use Rattle.bases.proofs.Largest.{rounded-largest, rounded_is, rounded-none, rounded-zero}

-- the largest is the largest not above itself
itself : (c x y : ℕ) → Largest c x y → Largest c y y
itself c x y l = record { power = l.power; times_power = l.times_power; not_above = omega arith; largest = λ k h. h }

-- for any base and any interval
pub rounded_twice : (c x : ℕ) → rounded c (rounded c x) ≡ rounded c x
rounded_twice zero x = rw (rounded-zero x) (rounded-zero 0)
rounded_twice (suc b) x =
    let c = suc b in
    by_lt x c
    (λ h. rw (rounded-none c x h) (rounded-none c 0 (omega arith)))
    (λ h. rounded_is c (rounded c x) (rounded c x) (omega arith) (itself c x (rounded c x) (rounded-largest c x (omega arith) h)))

-- any flow
pub flow_twice : (c : ℕ) (f : Flow) → rounded_flow c (rounded_flow c f) ≡ rounded_flow c f
unfolding rounded_flow
flow_twice c f =
    let r = rounded c f.interval in
    let capped : min (min f.jitter (r - 1)) (r - 1) ≡ min f.jitter (r - 1) = omega arith in
    rw (rounded_twice c f.interval, capped)

-- and any flows
pub flows_twice : (c : ℕ) (fs : List Flow) → rounded_flows c (rounded_flows c fs) ≡ rounded_flows c fs
unfolding rounded_flows
flows_twice c [] = refl
flows_twice c (f ∷ fs) = ap₂ (λ (x : Flow) (xs : List Flow). x ∷ xs) (flow_twice c f) (flows_twice c fs)
