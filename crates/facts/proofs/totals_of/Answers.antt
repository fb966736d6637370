-- `facts::totals_of` meets its contract.
-- Assumes nothing.
use mathlib.Core.Path.{◌≡◌, ap, ap₂, ◌∙◌}
use Prim.Native.Nat.{ℕ, ◌+◌, ◌*◌, ◌≤◌, ◌<◌}
use native.Mathlib.Omega.{arith}
use lib.ListN.{length, get_or}
use Rattle.flows.specs.declared.flow.Flow.{Flow}
use Rattle.flows.specs.Flows.{no_flow}
use Rattle.lists.specs.Lists.{flows_of}
use Rattle.lists.specs.Facts.{occupies, grants_of}
use Rattle.lists.proofs.Records.{length-flows, flow_is}
use Rattle.facts.proofs.Turns.{SumAt, sum-start, sum-next, sum_end, product_le}
use Rattle.facts.proofs.totals_of.Goals as goal
use Rattle.facts.proofs.totals_of.Goals.{After-from}

-- the flow that was read, its grants and its slots
flow : (c : After-from)
    → c.flow_at-f.result ≡ get_or (flows_of c.args.list.now) c.loop-i.i no_flow
flow c =
    let l = c.args.list.now in
    flow_is l c.loop-i.i c.flow_at-f.result (omega (arith, c.count-i-end.ensures.0)) c.flow_at-f.ensures

product : (c : After-from) → c.from.result * c.from-times.result ≤ 65535 * 65535
product c = product_le c.from.result c.from-times.result (omega arith) (omega arith)

-- one turn of both sums
turn : (c : After-from)
    → let v = c.loop-i in
    let a = c.args in
    SumAt (grants_of a.cycle) 65535 (flows_of a.list.now) (v.i + 1) (v.grants + c.from-times.result)
    × SumAt (λ f. occupies f * grants_of a.cycle f) (65535 * 65535) (flows_of a.list.now) (v.i + 1) (v.load + c.from.result * c.from-times.result)
unfolding grants_of
turn c =
    let v = c.loop-i in
    let a = c.args in
    let fs = flows_of a.list.now in
    let h : v.i < length fs = omega (arith, c.count-i-end.ensures.0, length-flows a.list.now) in (
      sum-next (grants_of a.cycle) 65535 fs v.i v.grants _ h ((c.from-times.ensures ∙ c.times.ensures) ∙ ap (grants_of a.cycle) (flow c)) (omega arith) v.invariant.0,
      sum-next (λ f. occupies f * grants_of a.cycle f) (65535 * 65535) fs v.i v.load _ h
          (ap₂ ◌*◌ (c.from.ensures ∙ c.occupies.ensures) (c.from-times.ensures ∙ c.times.ensures) ∙ ap (λ (f : Flow). occupies f * grants_of a.cycle f) (flow c)) (product c) v.invariant.1,
    )

pub loop-i-preserved : goal.loop-i-preserved
loop-i-preserved c = turn (goal.at.loop-i-preserved c).After-from

pub returns : goal.returns
returns c =
    let v = c.loop-i in
    let a = c.args in
    let fs = flows_of a.list.now in
    let h : length fs ≤ v.i = omega (arith, c.count-i-end.ensures.0, length-flows a.list.now) in
    ap₂ (λ (x y : ℕ). record { grants = x; load = y })
    (sum_end (grants_of a.cycle) 65535 fs v.i v.grants h v.invariant.0)
    (sum_end (λ f. occupies f * grants_of a.cycle f) (65535 * 65535) fs v.i v.load h v.invariant.1)
