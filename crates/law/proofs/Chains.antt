-- Grants one after another: in one round, and round after round. Assumes nothing.
use mathlib.Core.Path.{◌≡◌}
use mathlib.Core.List.{List, [], ◌∷◌}
use Prim.Native.Nat.{ℕ, zero, suc, ◌+◌, ◌≤◌, ◌<◌}
use native.Mathlib.Omega.{arith}
use native.Mathlib.Nat.{mul-le-mul_right}
use lib.ListN.{length}
use Rattle.logic.specs.Lists.{All, sum}
use Rattle.logic.proofs.Tests.{by_lt, by_order}
use Rattle.logic.proofs.Members.{all_both}
use Rattle.flows.specs.declared.flow.Flow.{Flow}
use Rattle.lists.specs.Facts.{cycle}
use Rattle.tables.specs.declared.packed.Grant.{Grant}
use Rattle.law.specs.Check.{slots}
use Rattle.law.specs.Law.{nth, Holds, Once, Rising, Clear, Inside}

-- one after another, from a on, and the last ends by b
abbrev pub Chain : List Flow → ℕ → ℕ → List Grant → Type 0
Chain fs a b [] = a ≤ b
Chain fs a b (r ∷ rs) = (a ≤ r.start) × Chain fs (r.start + slots fs r) b rs

chain_le : (fs : List Flow) (a b : ℕ) (rs : List Grant) → Chain fs a b rs → a ≤ b
chain_le fs a b [] c = c
chain_le fs a b (r ∷ rs) c = omega (arith, chain_le fs (r.start + slots fs r) b rs c.1)

-- from an earlier slot on
pub chain_earlier : (fs : List Flow) (a c b : ℕ) (rs : List Grant) → a ≤ c → Chain fs c b rs → Chain fs a b rs
chain_earlier fs a c b [] l h = omega arith
chain_earlier fs a c b (r ∷ rs) l h = (omega arith, h.1)

-- for flows that give each grant as many slots
pub chain_same : (fs hs : List Flow) (a b : ℕ) (rs : List Grant) → All (λ r. slots hs r ≡ slots fs r) rs → Chain fs a b rs → Chain hs a b rs
chain_same fs hs a b [] s c = c
chain_same fs hs a b (r ∷ rs) s c = (c.0, rw s.0 (chain_same fs hs (r.start + slots fs r) b rs s.1 c.1))

-- all that is granted fits between the ends
pub chain_sum : (fs : List Flow) (a b : ℕ) (rs : List Grant) → Chain fs a b rs → a + sum (slots fs) rs ≤ b
unfolding sum
chain_sum fs a b [] c = omega arith
chain_sum fs a b (r ∷ rs) c = omega (arith, chain_sum fs (r.start + slots fs r) b rs c.1)

-- tests 17 and 18 together
clear_chain : (fs : List Flow) (a b : ℕ) (r : Grant) (rs : List Grant) → a ≤ r.start → Clear fs (r ∷ rs) → All (λ q. q.start + slots fs q ≤ b) (r ∷ rs)
    → Chain fs a b (r ∷ rs)
clear_chain fs a b r [] h n i = (h, i.0)
clear_chain fs a b r (q ∷ rs) h n i = (h, clear_chain fs (r.start + slots fs r) b q rs n.0 n.1 i.1)

pub inside_chain : (fs : List Flow) (tab : List Grant) → Clear fs tab → Inside fs tab → Chain fs 0 (cycle fs) tab
inside_chain fs [] n i = omega arith
inside_chain fs (r ∷ rs) n i = clear_chain fs 0 (cycle fs) r rs (omega arith) n i

pub chain_clear : (fs : List Flow) (a b : ℕ) (tab : List Grant) → Chain fs a b tab → Clear fs tab
chain_clear fs a b [] c = tt
chain_clear fs a b (r ∷ []) c = tt
chain_clear fs a b (r ∷ q ∷ rs) c = (c.1.0, chain_clear fs (r.start + slots fs r) b (q ∷ rs) c.1)

pub chain_inside : (fs : List Flow) (a b : ℕ) (tab : List Grant) → Chain fs a b tab → All (λ r. r.start + slots fs r ≤ b) tab
chain_inside fs a b [] c = tt
chain_inside fs a b (r ∷ rs) c = (chain_le fs (r.start + slots fs r) b rs c.1, chain_inside fs (r.start + slots fs r) b rs c.1)

-- every grant that takes a slot starts before the end
pub chain_before : (fs : List Flow) (a b : ℕ) (tab : List Grant) → All (λ r. 0 < slots fs r) tab → Chain fs a b tab → All (λ r. r.start < b) tab
chain_before fs a b tab s c =
    all_both (λ r. 0 < slots fs r) (λ r. r.start + slots fs r ≤ b) (λ r. r.start < b) tab (λ r p q. omega arith) s (chain_inside fs a b tab c)

-- test 12 follows, since every grant takes a slot
pub chain_rising : (fs : List Flow) (a b : ℕ) (tab : List Grant) → All (λ r. 0 < slots fs r) tab → Chain fs a b tab → Rising tab
chain_rising fs a b [] s c = tt
chain_rising fs a b (r ∷ []) s c = tt
chain_rising fs a b (r ∷ q ∷ rs) s c = (omega arith, chain_rising fs (r.start + slots fs r) b (q ∷ rs) s.1 c.1)

-- a grant's place in the chain
pub chain_at : (fs : List Flow) (a b : ℕ) (rs : List Grant) (k : ℕ) → Chain fs a b rs → k < length rs → (a ≤ (nth rs k).start) × ((nth rs k).start + slots fs (nth rs k) ≤ b)
chain_at fs a b [] k c h = absurd (omega arith)
chain_at fs a b (r ∷ rs) zero c h = (c.0, chain_le fs (r.start + slots fs r) b rs c.1)
chain_at fs a b (r ∷ rs) (suc k) c h = let u = chain_at fs (r.start + slots fs r) b rs k c.1 (omega arith) in omega arith

-- an earlier grant ends before a later one starts
chain_order : (fs : List Flow) (a b : ℕ) (rs : List Grant) (k l : ℕ) → Chain fs a b rs → k < l → l < length rs
    → (nth rs k).start + slots fs (nth rs k) ≤ (nth rs l).start
chain_order fs a b [] k l c h m = absurd (omega arith)
chain_order fs a b (r ∷ rs) k zero c h m = absurd (omega arith)
chain_order fs a b (r ∷ rs) zero (suc l) c h m = (chain_at fs (r.start + slots fs r) b rs l c.1 (omega arith)).0
chain_order fs a b (r ∷ rs) (suc k) (suc l) c h m = chain_order fs (r.start + slots fs r) b rs k l c.1 (omega arith) (omega arith)

-- a chain no longer than a cycle, wherever it begins, repeated forever grants no slot twice
module _ (z : ℕ) (fs : List Flow) (a : ℕ) (tab : List Grant) (c : Chain fs a (a + cycle fs) tab) where
  rounds : (i j k l x : ℕ) → k < length tab → l < length tab → Holds z fs x i (nth tab k) → Holds z fs x j (nth tab l) → i < j → ⊥
  rounds i j k l x hk hl p q h =
      let u = chain_at fs a (a + cycle fs) tab k c hk in
      let v = chain_at fs a (a + cycle fs) tab l c hl in
      omega (arith, mul-le-mul_right (cycle fs) h)

  apart : (i k l x : ℕ) → k < l → l < length tab → Holds z fs x i (nth tab k) → Holds z fs x i (nth tab l) → ⊥
  apart i k l x h hl p q = omega (arith, chain_order fs a (a + cycle fs) tab k l c h hl)

  pub chain_once : Once z fs tab
  chain_once i j k l x hk hl p q = (
    ij,
    by_order k l (λ h. absurd (apart j k l x h hl (rw ij at p) q)) (λ e. e) (λ h. absurd (apart j l k x h hk q (rw ij at p))),
  )
    where
      ij : i ≡ j
      ij = by_order i j (λ h. absurd (rounds i j k l x hk hl p q h)) (λ e. e) (λ h. absurd (rounds j i l k x hl hk q p h))

once_tail : (z : ℕ) (fs : List Flow) (r : Grant) (rs : List Grant) → Once z fs (r ∷ rs) → Once z fs rs
once_tail z fs r rs o i j k l x hk hl p q =
    let u = o i j (suc k) (suc l) x (omega arith) (omega arith) p q in
    (u.0, omega arith)

-- if no slot is granted twice, each grant ends before the next starts
pub once_clear : (z : ℕ) (fs : List Flow) (tab : List Grant) → Rising tab → All (λ r. 0 < slots fs r) tab → Once z fs tab
    → Clear fs tab
once_clear z fs [] s n o = tt
once_clear z fs (r ∷ []) s n o = tt
once_clear z fs (r ∷ q ∷ rs) s n o = (
  by_lt q.start (r.start + slots fs r)
      (λ h.
      let u : ◌≡◌ {A = ℕ} 0 1 = (o 0 0 0 1 (z + q.start) (omega arith) (omega arith) (omega arith) (omega arith)).1 in
      absurd (omega arith))
      (λ h. h),
  once_clear z fs (q ∷ rs) s.1 n.1 (once_tail z fs r (q ∷ rs) o),
)
