-- Test 28 and then 4 on the new list, in one look through the records. Assumes nothing.
use Rattle.std.proofs.Common.{◌≡◌, refl, sym, ap, ap₂, ◌∙◌, Bool, List, ◌∷◌, map, ℕ, ◌+◌, ◌≤◌, ◌<◌, length, drop, drop_of_length-le, le-leb, arith}
use borrow.Author.Tests.{lt-leb}
use Rattle.logic.proofs.Indices.{opens}
use Rattle.flows.specs.declared.flow.Flow.{Flow}
use Rattle.flows.specs.Flows.{no_flow, keeps}
use Rattle.refusals.specs.declared.Refusal.TheVariants.{Field, BelowBase}
use Rattle.refusals.specs.Results.{Checked, Passed, Refused}
use Rattle.refusals.specs.Tests.{◌⟫◌, unless, lowest}
use Rattle.refusals.proofs.Chains.{first_refuses, chain_passed}
use Rattle.refusals.proofs.Lowest.{lowest-next, lowest-here, lowest-noted}
use Rattle.lists.specs.Lists.{count, flow_at, flows_of}
use Rattle.lists.specs.Tests.{test4}
use Rattle.lists.proofs.Records.{length-flows, flow_is}
use Rattle.bases.specs.Rounding.{rounded_flow, rounded_flows}
use Rattle.bases.specs.Tests.{reaches, test28}

-- test 28 and then 4 on the new list
abbrev pub new_tests : ℕ → List Flow → Checked
new_tests c fs = test28 c fs ⟫ test4 (rounded_flows c fs)

-- the same of the flows left, the first of which is record n, behind what test 4 says of those before
abbrev left_tests : ℕ → ℕ → Checked → List Flow → Checked
left_tests c n rules fs = lowest BelowBase n (map (reaches c) fs) ⟫ (rules ⟫ lowest Field n (map keeps (rounded_flows c fs)))

-- the flows from record i on are left, and none before is below the base
pub record LookAt (c : ℕ) (fs : List Flow) (rules : Checked) (i : ℕ) : Type 0 where
  pub left : left_tests c (i + 1) rules (drop i fs) ≡ new_tests c fs

-- at the start all are
pub look_start : (c : ℕ) (fs : List Flow) → LookAt c fs Passed 0
unfolding test28 test4
look_start c fs = record { left = refl }

module _ (c : ℕ) (l : List ℕ) (rules : Checked) (i : ℕ) (at : LookAt c (flows_of l) rules i) where
  -- no flow is left
  pub look_end : count l ≤ i → rules ≡ new_tests c (flows_of l)
  unfolding lowest rounded_flows
  look_end h =
      let all : length (flows_of l) ≤ i = omega (arith, h, length-flows l) in
      let none : left_tests c (i + 1) rules (drop i (flows_of l)) ≡ rules = rw (drop_of_length-le (flows_of l) all) (chain_passed rules) in
      sym none ∙ at.left

  module _ (f : Flow) (q : f ≡ flow_at l i) (h : i < count l) where
    -- the flow of record i is the first of those left
    first_left : drop i (flows_of l) ≡ f ∷ drop (i + 1) (flows_of l)
    first_left = opens (flows_of l) no_flow f i (omega (arith, h, length-flows l)) (flow_is l i f h q)

    -- it is below the base
    pub look_below : f.interval < c → Refused (BelowBase (i + 1)) ≡ new_tests c (flows_of l)
    unfolding reaches
    look_below e =
        let here = lowest-here BelowBase (i + 1) (reaches c f) (map (reaches c) (drop (i + 1) (flows_of l))) (lt-leb c f.interval e) in
        first_refuses _ _ _ (ap (λ (gs : List Flow). lowest BelowBase (i + 1) (map (reaches c) gs)) first_left ∙ here) ∙ at.left

    -- or not, and its new flow keeps the rule or not
    pub look_next : c ≤ f.interval → (g : Flow) → g ≡ rounded_flow c f → (kept : Bool) → kept ≡ keeps g
        → (noted : Checked) → noted ≡ (rules ⟫ unless kept (Field (i + 1))) → LookAt c (flows_of l) noted (i + 1)
    unfolding rounded_flows reaches
    look_next e g new kept k noted n =
        let rest : List Flow = drop (i + 1) (flows_of l) in
        let reach = lowest-next BelowBase (i + 1) (reaches c f) (map (reaches c) rest) (le-leb c f.interval e) in
        let first = lowest-noted Field (i + 1) (keeps (rounded_flow c f)) (map keeps (rounded_flows c rest)) rules in
        record { left = rw (n, k, new) (sym (ap (left_tests c (i + 1) rules) first_left ∙ ap₂ ◌⟫◌ reach first) ∙ at.left) }
