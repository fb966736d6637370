-- What the code's own parts answer: what is kept for the flows, and what a walk over the grants notes. Assumes nothing.
use Rattle.std.specs.Prelude.{◌≡◌, Bool, ◌&&◌, List, ℕ, zero, suc, ◌+◌, ◌-◌, ◌*◌, ◌≤◌, ◌<◌, leb, ltb, eqb, length, get_or, Result, Ok, Err}
use Rattle.std.proofs.Math.Option.{Option, none, some}
use Rattle.flows.specs.declared.flow.Flow.{Flow}
use Rattle.flows.specs.Flows.{no_flow}
use Rattle.refusals.specs.declared.Refusal.{Refusal}
use Rattle.refusals.specs.declared.Refusal.TheVariants.{Timing, Overlap, PastCycle}
use Rattle.refusals.specs.Results.{Checked, Refused}
use Rattle.refusals.specs.Tests.{◌⟫◌, unless}
use Rattle.lists.specs.Lists.{flows_of}
use Rattle.lists.specs.Facts.{occupies, cycle}
use Rattle.tables.specs.declared.packed.Grant.{Grant}
use Rattle.tables.specs.Tables.{cycle_of, frame_of, grants_of}
use Rattle.checking.specs.declared.pair.Pair.{Pair}
use Rattle.checking.specs.declared.seen.Seen.{Seen}
use Rattle.law.specs.Check.{to, test14, test16, test17, test18}

-- ---- a list and a table

-- the flows of the list
abbrev pub flows_in : Pair → List Flow
flows_in pair = flows_of pair.list.now

-- the grants of the table
abbrev pub grants_in : Pair → List Grant
grants_in pair = grants_of pair.table.now

-- ---- what is kept in the cells, one for each flow

-- the number of flow k of the list
abbrev pub number_of : List Flow → ℕ → ℕ
number_of fs k = (get_or fs k no_flow).number

-- the cell of each flow says how many grants it has
abbrev pub Counts : List Flow → List Grant → List ℕ → Type 0
Counts fs gs cs = (k : ℕ) → k < length fs → get_or cs k 0 ≡ length (to (number_of fs k) gs)

-- what n nominal times, the first below the interval i and each other a step of it, leave of the last one, which v says with 1 added (0 where there is none), in a cycle of c slots
pub record Steady (i n c v : ℕ) : Type 0 where
  pub none : v ≡ 0 → n ≡ 0
  pub above : n * i < v + i
  pub below : v ≤ n * i
  pub inside : v ≤ c

-- each flow's grants are such, and its cell says the last one
abbrev pub Spaced : List Flow → List Grant → List ℕ → Type 0
Spaced fs gs cs = (k : ℕ) → k < length fs → Steady (get_or fs k no_flow).interval (length (to (number_of fs k) gs)) (cycle fs) (get_or cs k 0)

-- each flow's last nominal time, which its cell says with 1 added, lies in the last interval of the cycle
abbrev pub Filled : List Flow → List ℕ → Type 0
Filled fs cs = (k : ℕ) → k < length fs → cycle fs < get_or cs k 0 + (get_or fs k no_flow).interval

-- ---- test 16 of a grant

-- a nominal time as it is kept: 0 is none
abbrev pub stamp_of : Option ℕ → ℕ
stamp_of none = 0
stamp_of (some p) = p + 1

-- the nominal time n after the one that is kept as s, where the interval is i
abbrev pub steps_from : ℕ → ℕ → ℕ → Bool
steps_from i zero n = ltb n i
steps_from i (suc p) n = eqb n (p + i)

-- a grant of a flow with jitter j and interval i, whose last nominal time is kept as s
abbrev pub on_time : ℕ → ℕ → ℕ → ℕ → ℕ → Bool
on_time j i s start late = leb late j && (leb late start && steps_from i s (start - late))

-- ---- tests 13 to 18

-- the table has the cycle c and the frame φ
abbrev pub belongs : ℕ → ℕ → List ℕ → Bool
belongs c φ t = eqb (cycle_of t) c && eqb (frame_of t) φ

-- what is seen with a grant of a flow, which is timely or not, in a cycle of c slots
abbrev pub next : Seen → Bool → Flow → Grant → ℕ → ℕ → Seen
next s timely f g c here =
    let end = g.start + occupies f in
    record {
      timing = s.timing ⟫ unless timely (Timing here);
      overlap = s.overlap ⟫ unless (leb s.end g.start) (Overlap here);
      past = s.past ⟫ unless (leb end c) (PastCycle here);
      end = end;
    }

-- what tests 14 to 18 say by a walk, which ends with the refusal of test 14 or with what is seen, and by what test 15 says
abbrev pub answers : Result Seen Refusal → Checked → Checked
answers (Err r) counts = Refused r
answers (Ok s) counts = counts ⟫ s.timing ⟫ s.overlap ⟫ s.past

-- tests 14 to 18 in their order, with what test 15 says
abbrev pub tests_with : List Flow → List Grant → Checked → Checked
tests_with fs gs counts = test14 fs gs ⟫ counts ⟫ test16 fs gs ⟫ test17 fs gs ⟫ test18 fs gs
