-- "Show that the rounded list is always related" (document 02, L3). Assumes nothing.
use Rattle.std.proofs.Common.{◌≡◌, ◌∙◌, true, List, [], ◌∷◌, ℕ, ◌+◌, ◌-◌, ◌*◌, ◌%◌, ◌^◌, ◌≤◌, ◌<◌, max, min, mul_assoc, arith, pow-add, eq-eqb}
use native.Mathlib.Nat.{mul-mod_right}
use Rattle.logic.specs.Lists.{All}
use Rattle.logic.proofs.Tests.{by_lt}
use Rattle.flows.specs.declared.flow.Flow.{Flow}
use Rattle.refusals.specs.declared.Refusal.TheVariants.{Unrelated}
use Rattle.refusals.specs.Results.{Passed}
use Rattle.refusals.proofs.Entries.{alike_passed}
use Rattle.lists.specs.Facts.{related}
use Rattle.lists.specs.Tests.{related_interval, test6}
use Rattle.lists.proofs.Cycle.{related_swap}
use Rattle.bases.specs.Rounding.{rounded_flow, rounded_flows}
use Rattle.bases.proofs.Largest.{power_grows, rounded-largest}

-- ---- powers of one base

module _ (c : ℕ) where
  -- the lower divides the higher
  power_divides : (j k : ℕ) → j ≤ k → c * 2 ^ k % (c * 2 ^ j) ≡ 0
  power_divides j k h =
      let sum : j + (k - j) ≡ k = omega arith in
      let product : c * 2 ^ k ≡ (c * 2 ^ j) * 2 ^ (k - j) = rw (mul_assoc, ← pow-add, sum) in
      rw product (mul-mod_right (c * 2 ^ j) (2 ^ (k - j)))

  -- so it is related to it
  rising-related : (j k : ℕ) → j ≤ k → related (c * 2 ^ j) (c * 2 ^ k) ≡ true
  unfolding related
  rising-related j k h =
      let grows = power_grows c j k h in
      let low : min (c * 2 ^ j) (c * 2 ^ k) ≡ c * 2 ^ j = omega (arith, grows) in
      let high : max (c * 2 ^ j) (c * 2 ^ k) ≡ c * 2 ^ k = omega (arith, grows) in
      rw (low, high) (eq-eqb (c * 2 ^ k % (c * 2 ^ j)) 0 (power_divides j k h))

  -- and so are any two, in either order
  pub powers_related : (j k : ℕ) → related (c * 2 ^ j) (c * 2 ^ k) ≡ true
  powers_related j k =
      by_lt j k (λ l. rising-related j k (omega arith)) (λ l. related_swap (c * 2 ^ j) (c * 2 ^ k) ∙ rising-related k j l)

-- ---- the rounded list

module _ (c : ℕ) where
  -- the interval is the base times a power of two
  abbrev pub Powered : Flow → Type 0
  Powered f = (k : ℕ) × (f.interval ≡ c * 2 ^ k)

  -- so each rounded interval is
  pub each_powered : (fs : List Flow) → 0 < c → All (λ f. c ≤ f.interval) fs → All Powered (rounded_flows c fs)
  unfolding rounded_flows rounded_flow
  each_powered [] pos a = tt
  each_powered (f ∷ fs) pos a = let l = rounded-largest c f.interval pos a.0 in ((l.power, l.times_power), each_powered fs pos a.1)

  -- it passes test 6
  pub rounded-related : (fs : List Flow) → 0 < c → All (λ f. c ≤ f.interval) fs → test6 (rounded_flows c fs) ≡ Passed
  unfolding test6 related_interval
  rounded-related fs pos a =
      alike_passed (λ g f. related g.interval f.interval) Powered (λ g f p q. rw (p.1, q.1) (powers_related c p.0 q.0)) Unrelated 1
      (rounded_flows c fs) (each_powered fs pos a)
