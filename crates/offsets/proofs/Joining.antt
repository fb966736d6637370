-- The new flow's grants put among the old ones. Assumes nothing.
use mathlib.Core.Path.{◌≡◌, refl, ap, ◌∙◌}
use mathlib.Core.List.{List, [], ◌∷◌}
use Prim.Native.Nat.{ℕ, zero, suc, ◌+◌, ◌*◌, ◌≤◌, ◌<◌}
use native.Mathlib.Omega.{arith}
use lib.ListN.{length}
use borrow.Author.Tests.{lt-ltb, le-ltb}
use Rattle.logic.specs.Lists.{All}
use Rattle.logic.proofs.Tests.{by_lt}
use Rattle.logic.proofs.Members.{all_imp}
use Rattle.flows.specs.declared.flow.Flow.{Flow}
use Rattle.lists.specs.Lists.{flows_of}
use Rattle.lists.specs.Facts.{cycle, frame, grants_of}
use Rattle.lists.proofs.RoundTrip.{length_list}
use Rattle.tables.specs.declared.packed.Grant.{Grant}
use Rattle.tables.specs.Tables.{place, grants_of as grants_in}
use Rattle.tables.proofs.Meaning.{length-table}
use Rattle.offsets.specs.Offsets.{grants_from, new_grants, insert, joined}
use Rattle.offsets.specs.Adding.{with_new, list_bytes, table_bytes, new_list, new_table_grants, new_table}

-- ---- one grant put among others

-- behind those that start before it
insert-behind : (n g : Grant) (gs : List Grant) → g.start < n.start → insert n (g ∷ gs) ≡ g ∷ insert n gs
unfolding insert
insert-behind n g gs h = rw (lt-ltb g.start n.start h)

-- before the first that does not
insert-before : (n : Grant) (gs : List Grant) → All (λ g. n.start ≤ g.start) gs → insert n gs ≡ n ∷ gs
unfolding insert
insert-before n [] a = refl
insert-before n (g ∷ gs) a = rw (le-ltb g.start n.start a.0)

length-insert : (n : Grant) (gs : List Grant) → length (insert n gs) ≡ suc (length gs)
unfolding insert
length-insert n [] = refl
length-insert n (g ∷ gs) =
    by_lt g.start n.start
    (λ h. rw (lt-ltb g.start n.start h) (ap suc (length-insert n gs)))
    (λ h. rw (le-ltb g.start n.start h))

all_insert : (P : Grant → Type 0) (n : Grant) (gs : List Grant) → P n → All P gs → All P (insert n gs)
unfolding insert
all_insert P n [] p a = (p, a)
all_insert P n (g ∷ gs) p a =
    by_lt g.start n.start
    (λ h. rw (lt-ltb g.start n.start h) (a.0, all_insert P n gs p a.1))
    (λ h. rw (le-ltb g.start n.start h) (p, a))

-- ---- new grants put among the old ones

pub all-joined : (P : Grant → Type 0) (ns gs : List Grant) → All P ns → All P gs → All P (joined ns gs)
unfolding joined
all-joined P [] gs a b = b
all-joined P (n ∷ ns) gs a b = all_insert P n (joined ns gs) a.0 (all-joined P ns gs a.1 b)

pub length-joined : (ns gs : List Grant) → length (joined ns gs) ≡ length gs + length ns
unfolding joined
length-joined [] gs = omega arith
length-joined (n ∷ ns) gs = omega (arith, length-insert n (joined ns gs), length-joined ns gs)

-- an old grant that starts before all new ones comes first
pub joined-old : (ns : List Grant) (g : Grant) (gs : List Grant) → All (λ n. g.start < n.start) ns → joined ns (g ∷ gs) ≡ g ∷ joined ns gs
unfolding joined
joined-old [] g gs a = refl
joined-old (n ∷ ns) g gs a = rw (joined-old ns g gs a.1) (insert-behind n g (joined ns gs) a.0)

-- every new grant from slot x on starts at x or later
pub from-after : (f : Flow) (x n : ℕ) → All (λ g. x ≤ g.start) (grants_from f x n)
unfolding grants_from
from-after f x zero = tt
from-after f x (suc n) = (
  omega arith,
  all_imp (λ g. x + f.interval ≤ g.start) (λ g. x ≤ g.start) (grants_from f (x + f.interval) n) (λ g h. omega arith) (from-after f (x + f.interval) n),
)

-- and an interval or more before the end of n intervals
pub from-before : (f : Flow) (x n : ℕ) → All (λ g. g.start + f.interval ≤ x + n * f.interval) (grants_from f x n)
unfolding grants_from
from-before f x zero = tt
from-before f x (suc n) = (
  omega arith,
  all_imp (λ g. g.start + f.interval ≤ x + f.interval + n * f.interval) (λ g. g.start + f.interval ≤ x + suc n * f.interval)
      (grants_from f (x + f.interval) n) (λ g h. omega arith) (from-before f (x + f.interval) n),
)

-- the first of n + 1 new grants comes first where no old one starts before it
pub joined-new : (f : Flow) (x n : ℕ) (gs : List Grant) → All (λ g. x ≤ g.start) gs
    → joined (grants_from f x (suc n)) gs ≡ record { flow = f.number; start = x; late = 0 } ∷ joined (grants_from f (x + f.interval) n) gs
unfolding grants_from joined
joined-new f x n gs a =
    insert-before (record { flow = f.number; start = x; late = 0 }) (joined (grants_from f (x + f.interval) n) gs)
    (all-joined (λ g. x ≤ g.start) (grants_from f (x + f.interval) n) gs (from-after f x (suc n)).1 a)

-- ---- how many, and the bytes of the new list and the new table

pub length_from : (f : Flow) (x n : ℕ) → length (grants_from f x n) ≡ n
unfolding grants_from
length_from f x zero = refl
length_from f x (suc n) = ap suc (length_from f (x + f.interval) n)

pub length-new_grants : (l t : List ℕ) (f : Flow) (o : ℕ) → length (new_table_grants l t f o) ≡ length (grants_in t) + grants_of (cycle (flows_of l)) f
unfolding new_table_grants new_grants
length-new_grants l t f o =
    let n = grants_of (cycle (flows_of l)) f in
    omega (arith, length-joined (grants_from f o n) (grants_in t), length_from f o n)

-- what is written has the lengths that test 9 asks room for
pub length-new_list : (l : List ℕ) (f : Flow) → length (new_list l f) ≡ list_bytes (flows_of l) f
unfolding new_list list_bytes
length-new_list l f = length_list (with_new (flows_of l) f)

pub length-new_table : (l t : List ℕ) (f : Flow) (o : ℕ) → length (new_table l t f o) ≡ table_bytes (flows_of l) (grants_in t) f
unfolding new_table table_bytes
length-new_table l t f o = length-table (cycle (flows_of l)) (frame (flows_of l)) (new_table_grants l t f o) ∙ ap place (length-new_grants l t f o)
