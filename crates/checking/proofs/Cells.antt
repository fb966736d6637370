-- What is kept in the cells of the flows: how many grants each has, or its last one. Assumes nothing.
use Rattle.std.proofs.Common.{◌≡◌, refl, sym, ap, ◌∙◌, true, false, List, [], ◌∷◌, ℕ, zero, suc, ◌+◌, ◌/◌, ◌≤◌, ◌<◌, arith, eqb, length, get_or, set, replicate, get_or-set_same, get_or-set_other}
use mathlib.Core.Option.{some}
use lib.ListN.{get_or-replicate}
use Rattle.logic.proofs.Tests.{by_eq, true-not-false}
use Rattle.logic.proofs.Members.{mem_all, all_get_d}
use Rattle.flows.specs.declared.flow.Flow.{Flow}
use Rattle.flows.specs.Flows.{no_flow}
use Rattle.lists.specs.Facts.{cycle, grants_of}
use Rattle.lists.specs.Accepted.{Distinct}
use Rattle.refusals.proofs.Walks.{before}
use Rattle.tables.specs.declared.packed.Grant.{Grant}
use Rattle.law.specs.Check.{known, nominal, last, counted}
use Rattle.law.specs.Law.{blank}
use Rattle.law.proofs.Listed.{mem_known}
use Rattle.checking.specs.Parts.{number_of, Counts, stamp_of}
use Rattle.checking.proofs.Turns.{CountAt, count_none, count_end, count-own, count-other, last-here, last-next}

-- ---- one cell for each flow

-- no two flows of the list have one number
pub apart : (fs : List Flow) → Distinct fs → (i j : ℕ) → i < length fs → j < length fs → number_of fs i ≡ number_of fs j → i ≡ j
apart [] d i j h l e = absurd (omega arith)
apart (f ∷ fs) d zero zero h l e = refl
apart (f ∷ fs) d zero (suc j) h l e = absurd (all_get_d (λ g. f.number ≡ g.number → ⊥) no_flow fs d.0 j (omega arith) e)
apart (f ∷ fs) d (suc i) zero h l e = absurd (all_get_d (λ g. f.number ≡ g.number → ⊥) no_flow fs d.0 i (omega arith) (sym e))
apart (f ∷ fs) d (suc i) (suc j) h l e = ap suc (apart fs d.1 i j (omega arith) (omega arith) e)

-- what holds of each of the first m cells, where cell k is set to v
pub cells_next : (P Q : ℕ → ℕ → Type 0) (cs : List ℕ) (m k v : ℕ) → k < length cs → Q k v → ((j x : ℕ) → j < m → (j ≡ k → ⊥) → P j x → Q j x)
    → ((j : ℕ) → j < m → P j (get_or cs j 0)) → (j : ℕ) → j < m → Q j (get_or (set cs k v) j 0)
cells_next P Q cs m k v l own other a j h =
    by_eq j k
    (λ e. rw e (rw (get_or-set_same cs k v 0 l) own))
    (λ n. rw (get_or-set_other cs k j v 0 n) (other j (get_or cs j 0) h n (a j h)))

-- cells of 0
pub zeros : (k : ℕ) → k < 128 → get_or {A = ℕ} (replicate 128 0) k 0 ≡ 0
zeros k h = get_or-replicate {A = ℕ} 128 k 0 0 h

-- ---- the grants of each flow

-- each cell says how many grants its flow has before record i
abbrev pub CountsAt : List Flow → List Grant → ℕ → List ℕ → Type 0
CountsAt fs gs i cs = (k : ℕ) → k < length fs → CountAt gs (number_of fs k) i (get_or cs k 0)

module _ (fs : List Flow) (gs : List Grant) where
  pub counts_none : length fs ≤ 128 → CountsAt fs gs 0 (replicate 128 0)
  counts_none few k h = rw (zeros k (omega arith)) (count_none gs (number_of fs k))

  pub counts_end : (i : ℕ) (cs : List ℕ) → length gs ≤ i → CountsAt fs gs i cs → Counts fs gs cs
  counts_end i cs h a k l = count_end gs (number_of fs k) i (get_or cs k 0) (a k l) h

  module _ (i : ℕ) (cs : List ℕ) (a : CountsAt fs gs i cs) (h : i < length gs) (g : Grant) (e : g ≡ get_or gs i blank) where
    -- record i is a grant of flow k
    pub counts_next : Distinct fs → (k : ℕ) → k < length fs → k < length cs → number_of fs k ≡ g.flow → CountsAt fs gs (i + 1) (set cs k (get_or cs k 0 + 1))
    counts_next d k l w q =
        cells_next (λ j x. CountAt gs (number_of fs j) i x) (λ j x. CountAt gs (number_of fs j) (i + 1) x) cs (length fs) k (get_or cs k 0 + 1) w
        (count-own gs (number_of fs k) i (get_or cs k 0) (a k l) h g e (sym q))
        (λ j x m n b. count-other gs (number_of fs j) i x b h g e (λ p. n (apart fs d j k m l (sym p ∙ sym q))))
        a

    -- it is no flow's
    pub counts_skip : known fs g.flow ≡ false → CountsAt fs gs (i + 1) cs
    counts_skip n k l =
        count-other gs (number_of fs k) i (get_or cs k 0) (a k l) h g e
        (λ p. true-not-false (sym (all_get_d (λ f. known fs f.number ≡ true) no_flow fs (mem_all (λ f. known fs f.number ≡ true) fs (mem_known fs)) k l) ∙ ap (known fs) (sym p) ∙ n))

-- flow k has cycle / interval grants, as its cell says
pub counted_is : (fs : List Flow) (gs : List Grant) (cs : List ℕ) (k : ℕ) (f : Flow) (c n : ℕ) → Counts fs gs cs → k < length fs → f ≡ get_or fs k no_flow → c ≡ cycle fs → n ≡ c / f.interval
    → eqb (get_or cs k 0) n ≡ counted fs gs (get_or fs k no_flow)
unfolding counted grants_of
counted_is fs gs cs k f c n a h e p q = rw (a k h, q, p, e)

-- ---- the last grant of each flow

-- each cell says its flow's last nominal time before record i
abbrev pub Lasts : List Flow → List Grant → ℕ → List ℕ → Type 0
Lasts fs gs i cs = (k : ℕ) → k < length fs → get_or cs k 0 ≡ stamp_of (last 0 (number_of fs k) (before gs blank i))

module _ (fs : List Flow) (gs : List Grant) where
  pub lasts_none : length fs ≤ 128 → Lasts fs gs 0 (replicate 128 0)
  unfolding last
  lasts_none few k h = zeros k (omega arith)

  -- record i is a grant of flow k
  pub lasts_next : Distinct fs → (i : ℕ) (cs : List ℕ) → Lasts fs gs i cs → (g : Grant) → g ≡ get_or gs i blank → (k : ℕ) → k < length fs → k < length cs → number_of fs k ≡ g.flow
      → (v : ℕ) → v ≡ stamp_of (some (nominal 0 g)) → Lasts fs gs (i + 1) (set cs k v)
  lasts_next d i cs a g e k l w q v r =
      cells_next (λ j x. x ≡ stamp_of (last 0 (number_of fs j) (before gs blank i))) (λ j x. x ≡ stamp_of (last 0 (number_of fs j) (before gs blank (i + 1)))) cs (length fs) k v w
      (r ∙ ap stamp_of (sym (last-here gs (number_of fs k) (i + 1) i (omega arith) g e (sym q))))
      (λ j x m n b. b ∙ ap stamp_of (sym (last-next gs (number_of fs j) (i + 1) i (omega arith) g e (λ p. n (apart fs d j k m l (sym p ∙ sym q))))))
      a
