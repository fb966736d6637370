-- What the code's own parts ask and answer. Assumes nothing.
use Rattle.std.specs.Prelude.{◌≡◌, Bool, true, cond, not, ◌&&◌, ◌⊎◌, List, ℕ, zero, suc, ◌+◌, ◌*◌, ◌/◌, ◌%◌, ◌≤◌, ◌<◌, ltb, leb, length, Option, Result, Ok, Err}
use Rattle.marks.specs.Marks.{bit, marked}
use Rattle.flows.specs.declared.flow.Flow.{Flow}
use Rattle.flows.specs.Flows.{keeps}
use Rattle.refusals.specs.declared.Refusal.{Refusal}
use Rattle.refusals.specs.declared.Refusal.TheVariants.{Count, Field, Limits, Room, OutsideSpan}
use Rattle.refusals.specs.Results.{Checked, Passed}
use Rattle.refusals.specs.Tests.{◌⟫◌, unless}
use Rattle.lists.specs.Lists.{count, flows_of}
use Rattle.tables.specs.declared.packed.Grant.{Grant}
use Rattle.tables.specs.Tables.{count as table_count, cycle_of, frame_of, grant_at, grants_of as grants_in}
use Rattle.pairing.specs.Parts.{new_pair_tests}
use Rattle.law.specs.Check.{check, slots}
use Rattle.law.specs.Law.{nth}
use Rattle.offsets.specs.Offsets.{new_grants, smallest, joined}
use Rattle.offsets.specs.Adding.{new_tests}

-- the list and the table pass the check, and the new flow its tests with them
pub record Joins (l t : List ℕ) (f : Flow) : Type 0 where
  pub checked : check l t ≡ Passed
  pub new : new_tests (flows_of l) f ≡ Passed

-- 3 and 4 on the new list: the new flow, if there is room for one record more and the flow keeps its rule
abbrev pub new_record : List ℕ → Flow → Result Flow Refusal
new_record l f = cond (ltb (count l) 128) (cond (keeps f) (Ok f) (Err (Field (count l + 1)))) (Err Count)

-- 21, and 7 on the new list, by what the table says
abbrev pub limit_tests : List ℕ → Flow → Checked
limit_tests t f =
    unless (leb (frame_of t) f.interval && leb f.interval (cycle_of t)) OutsideSpan
    ⟫ unless (leb (table_count t + cycle_of t / f.interval) 1024) Limits

-- 9, by the bytes of the old list and what the table says
abbrev pub roomy : List ℕ → List ℕ → Flow → ℕ → ℕ → Bool
roomy l t f n m = leb (length l + 6) n && leb (8 + 5 * (table_count t + cycle_of t / f.interval)) m

-- 5 and 6 on the new list, 21, 7 on the new list, and 9
abbrev pub later_tests : List ℕ → List ℕ → Flow → ℕ → ℕ → Checked
later_tests l t f n m = new_pair_tests (flows_of l) f ⟫ limit_tests t f ⟫ unless (roomy l t f n m) Room

-- the new flow's grant at slot x
abbrev pub new_grant : Flow → ℕ → Grant
new_grant f x = record { flow = f.number; start = x; late = 0 }

-- nothing is marked
abbrev pub Unmarked : List ℕ → Type 0
Unmarked bs = (p : ℕ) → bit bs p ≡ 0

-- the places in an interval of i slots of the slots a to b less one are marked in ys, with all that are in xs, and no others
pub record Laid (xs : List ℕ) (i a b : ℕ) (ys : List ℕ) : Type 0 where
  pub all : (s : ℕ) → a ≤ s → s < b → bit ys (s % i) ≡ 1
  pub old : (p : ℕ) → bit xs p ≡ 1 → bit ys p ≡ 1
  pub only : (p : ℕ) → bit ys p ≡ 1 → (bit xs p ≡ 1) ⊎ ((s : ℕ) × (a ≤ s) × (s < b) × (s % i ≡ p))

-- s is a slot of the grant g of the table
abbrev pub SlotOf : List Flow → Grant → ℕ → Type 0
SlotOf fs g s = (g.start ≤ s) × (s < g.start + slots fs g)

-- the places in an interval of i slots of the slots of the first n grants are marked, and no others
pub record Overlaid (fs : List Flow) (gs : List Grant) (n i : ℕ) (bs : List ℕ) : Type 0 where
  pub all : (k s : ℕ) → k < n → SlotOf fs (nth gs k) s → bit bs (s % i) ≡ 1
  pub only : (p : ℕ) → bit bs p ≡ 1 → (k : ℕ) × (s : ℕ) × (k < n) × SlotOf fs (nth gs k) s × (s % i ≡ p)

-- n places from p on are free
unfoldable pub free_from : List ℕ → ℕ → ℕ → Bool
free_from bs p zero = true
free_from bs p (suc n) = not (marked bs p) && free_from bs (suc p) n

-- n places from p on are free and end in an interval of i slots
abbrev pub run_at : List ℕ → ℕ → ℕ → ℕ → Bool
run_at bs n i p = leb (p + n) i && free_from bs p n

-- the first of them
abbrev pub first_run : List ℕ → ℕ → ℕ → Option ℕ
first_run bs n i = smallest (run_at bs n i) 0 i

-- record r is the first of n from record i on that does not start before the slot x
pub record NextFrom (t : List ℕ) (n i x r : ℕ) : Type 0 where
  pub on : i ≤ r
  pub within : r ≤ n
  pub all : (p : ℕ) → i ≤ p → p < r → (grant_at t p).start < x
  pub ends : r < n → x ≤ (grant_at t r).start

-- the grants of the new table, for the offset o
abbrev pub grants_after : List ℕ → Flow → ℕ → List Grant
grants_after t f o = joined (new_grants (cycle_of t) f o) (grants_in t)
