-- One turn of each loop of the check: what is left to look at, at entry i. Assumes nothing.
use Rattle.std.proofs.Common.{◌≡◌, refl, ap, ◌∙◌, List, ◌∷◌, ℕ, suc, ◌+◌, ◌≤◌, ◌<◌, arith, length, get_or, drop, drop_of_length-le}
use mathlib.Core.Option.{some}
use borrow.Author.Tests.{eq-eqb, ne_eqb}
use Rattle.logic.proofs.Indices.{opens}
use Rattle.refusals.proofs.Walks.{before}
use Rattle.tables.specs.declared.packed.Grant.{Grant}
use Rattle.tables.specs.Tables.{values_at, grant_at}
use Rattle.tables.proofs.Records.{start_small}
use Rattle.law.specs.Check.{nominal, to, last}
use Rattle.law.specs.Law.{blank}

-- ---- the grants of a flow: k of them before record i

abbrev pub CountAt : List Grant → ℕ → ℕ → ℕ → Type 0
CountAt gs x i k = (k ≤ i) × (k + length (to x (drop i gs)) ≡ length (to x gs))

pub count_none : (gs : List Grant) (x : ℕ) → CountAt gs x 0 0
count_none gs x = (omega arith, omega arith)

module _ (gs : List Grant) (x i k : ℕ) (a : CountAt gs x i k) where
  pub count_end : length gs ≤ i → k ≡ length (to x gs)
  unfolding to
  count_end h =
      let s : k + 0 ≡ length (to x gs) = rw (drop_of_length-le gs h) at a.1 in
      omega arith

  module _ (h : i < length gs) (g : Grant) (e : g ≡ get_or gs i blank) where
    pub count-own : g.flow ≡ x → CountAt gs x (i + 1) (k + 1)
    unfolding to
    count-own q =
        let s : length (to x (drop i gs)) ≡ suc (length (to x (drop (i + 1) gs))) = rw (opens gs blank g i h e, to, eq-eqb g.flow x q) in
        (omega arith, omega arith)

    pub count-other : (g.flow ≡ x → ⊥) → CountAt gs x (i + 1) k
    unfolding to
    count-other n =
        let s : length (to x (drop i gs)) ≡ length (to x (drop (i + 1) gs)) = rw (opens gs blank g i h e, to, ne_eqb g.flow x n) in
        (omega arith, omega arith)

-- ---- the start of a grant has 12 bits

pub grant-start : (t : List ℕ) (i : ℕ) → (grant_at t i).start < 4096
unfolding grant_at
grant-start t i = start_small t i (values_at t i) refl

-- ---- the last grant of a flow before record j, the one after record k

module _ (gs : List Grant) (x j k : ℕ) (e : suc k ≡ j) (g : Grant) (q : g ≡ get_or gs k blank) where
  nearest : before gs blank j ≡ g ∷ before gs blank k
  nearest = rw (← e, q)

  pub last-here : g.flow ≡ x → last 0 x (before gs blank j) ≡ some (nominal 0 g)
  unfolding last
  last-here s = ap (last 0 x) nearest ∙ rw (last, eq-eqb g.flow x s)

  pub last-next : (g.flow ≡ x → ⊥) → last 0 x (before gs blank j) ≡ last 0 x (before gs blank k)
  unfolding last
  last-next n = ap (last 0 x) nearest ∙ rw (last, ne_eqb g.flow x n)
