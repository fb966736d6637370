-- The load that is still to come, length by length. Assumes nothing.
use mathlib.Core.Path.{◌≡◌, ◌∙◌}
use mathlib.Core.Bool.{true, false}
use mathlib.Core.List.{List}
use Prim.Native.Nat.{ℕ, suc, ◌+◌, ◌*◌, ◌/◌, ◌≤◌, ◌<◌}
use native.Mathlib.Omega.{arith}
use lib.Dec.{ltb}
use borrow.Author.Tests.{lt-ltb, le-ltb}
use Rattle.logic.specs.Lists.{sum}
use Rattle.logic.proofs.Tests.{by_order}
use Rattle.logic.proofs.Members.{all_each}
use Rattle.logic.proofs.Sums.{sum_same, sum-add, sum-times}
use Rattle.flows.specs.declared.flow.Flow.{Flow}
use Rattle.lists.specs.Facts.{occupies, grants_of}
use Rattle.law.proofs.Counting.{mark, mark_same, mark-other}

-- the part of the load of cycle c that is of intervals above t
unfoldable pub coming : ℕ → ℕ → Flow → ℕ
coming c t f = elim (ltb t f.interval) [ true ↦ occupies f * grants_of c f | false ↦ 0 ]

pub coming_yes : (c t : ℕ) (f : Flow) → t < f.interval → coming c t f ≡ occupies f * grants_of c f
unfolding coming
coming_yes c t f l = rw (lt-ltb t f.interval l, coming)

coming_no : (c t : ℕ) (f : Flow) → f.interval ≤ t → coming c t f ≡ 0
unfolding coming
coming_no c t f l = rw (le-ltb t f.interval l, coming)

coming-next : (c t : ℕ) (f : Flow) → coming c t f ≡ mark f.interval (suc t) * occupies f * (c / suc t) + coming c (suc t) f
unfolding grants_of
coming-next c t f =
    by_order f.interval (suc t)
    (λ l. rw (coming_no c t f (omega arith), coming_no c (suc t) f (omega arith), mark-other f.interval (suc t) (λ q. omega arith)) (omega arith))
    (λ q. rw (coming_yes c t f (omega arith), coming_no c (suc t) f (omega arith), mark_same f.interval (suc t) q) (rw q (omega arith)))
    (λ l. rw (coming_yes c t f (omega arith), coming_yes c (suc t) f l, mark-other f.interval (suc t) (λ q. omega arith)) (omega arith))

pub load-next : (c t : ℕ) (fs : List Flow) → sum (coming c t) fs ≡ sum (λ f. mark f.interval (suc t) * occupies f) fs * (c / suc t) + sum (coming c (suc t)) fs
load-next c t fs =
    sum_same (coming c t) (λ f. mark f.interval (suc t) * occupies f * (c / suc t) + coming c (suc t) f) fs
    (all_each (λ f. coming c t f ≡ mark f.interval (suc t) * occupies f * (c / suc t) + coming c (suc t) f) fs (coming-next c t))
    ∙ sum-add (λ f. mark f.interval (suc t) * occupies f * (c / suc t)) (coming c (suc t)) fs
    ∙ omega (arith, sum-times (λ f. mark f.interval (suc t) * occupies f) (c / suc t) fs)
