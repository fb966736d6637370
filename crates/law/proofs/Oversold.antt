-- What a passing table grants: the load, in as many grants as the list has; so an oversold list has none. Assumes nothing.
use mathlib.Core.Path.{◌≡◌, refl, sym, ◌∙◌}
use mathlib.Core.List.{List, [], ◌∷◌}
use Prim.Native.Nat.{ℕ, ◌*◌, ◌≤◌, ◌<◌}
use native.Mathlib.Omega.{arith}
use lib.ListN.{length}
use Rattle.logic.specs.Lists.{sum}
use Rattle.logic.proofs.Members.{all_imp}
use Rattle.logic.proofs.Sums.{sum_same}
use Rattle.flows.specs.declared.flow.Flow.{Flow}
use Rattle.refusals.specs.Results.{Passed}
use Rattle.lists.specs.Lists.{flows_of}
use Rattle.lists.specs.Facts.{occupies, cycle, grants_of, grants, load}
use Rattle.lists.specs.Accepted.{Distinct}
use Rattle.lists.proofs.Accepted.{accepted}
use Rattle.tables.specs.declared.packed.Grant.{Grant}
use Rattle.tables.specs.Tables.{grants_of as grants_in}
use Rattle.law.specs.Check.{slots, to, tests14to18, check}
use Rattle.law.specs.Lawful.{Lawful}
use Rattle.law.proofs.Counting.{counting}
use Rattle.law.proofs.Chains.{inside_chain, chain_sum}
use Rattle.law.proofs.Reading.{Reads, passes_reads}
use Rattle.law.proofs.Demand.{check_parts, check_is_lawful}

module _ (fs : List Flow) (d : Distinct fs) (tab : List Grant) (pass : tests14to18 fs tab ≡ Passed) where
  reads : Reads fs tab
  reads = (passes_reads fs tab).0 pass

  -- a weight of each grant, flow by flow
  by_flow : (v : Flow → ℕ) → sum (λ f. v f * grants_of (cycle fs) f) fs ≡ sum (λ f. v f * length (to f.number tab)) fs
  by_flow v =
      sum_same (λ f. v f * grants_of (cycle fs) f) (λ f. v f * length (to f.number tab)) fs
      (all_imp (λ f. length (to f.number tab) ≡ grants_of (cycle fs) f) (λ f. v f * grants_of (cycle fs) f ≡ v f * length (to f.number tab)) fs
      (λ f q. rw q) reads.counted)

  -- the slots that it grants are the load
  pub passes-slots : sum (slots fs) tab ≡ load fs
  unfolding load slots
  passes-slots = sym (by_flow occupies ∙ counting occupies fs d tab reads.listed)

  -- it has as many grants as the list
  pub passes-length : length tab ≡ grants fs
  unfolding grants sum
  passes-length = ones tab ∙ sym (same fs ∙ by_flow (λ f. 1) ∙ counting (λ f. 1) fs d tab reads.listed)
    where
      ones : (rs : List Grant) → length rs ≡ sum (λ r. 1) rs
      ones [] = refl
      ones (r ∷ rs) = omega (arith, ones rs)

      same : (gs : List Flow) → sum (λ f. grants_of (cycle fs) f) gs ≡ sum (λ f. 1 * grants_of (cycle fs) f) gs
      same [] = refl
      same (g ∷ gs) = omega (arith, same gs)

  -- the load is at most the cycle
  pub passes-load : load fs ≤ cycle fs
  passes-load = omega (arith, passes-slots, chain_sum fs 0 (cycle fs) tab (inside_chain fs tab reads.clear reads.inside))

-- if the load is over the cycle, no table passes the check
pub oversold : (l t : List ℕ) → cycle (flows_of l) < load (flows_of l) → check l t ≡ Passed → ⊥
oversold l t h e =
    let p = (check_parts l t).0 e in
    omega (arith, passes-load (flows_of l) (accepted l p.list).distinct (grants_in t) p.rules)

-- so no table of an oversold list is lawful
pub oversold_lawless : (l t : List ℕ) → cycle (flows_of l) < load (flows_of l) → Lawful l t → ⊥
oversold_lawless l t h w = oversold l t h ((check_is_lawful l t).1 w)
