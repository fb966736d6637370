-- Every test before 22 refuses by a lower number. Assumes nothing.
use mathlib.Core.Bool.{◌&&◌}
use mathlib.Core.List.{List, [], map}
use Prim.Native.Nat.{ℕ, ◌/◌}
use lib.Dec.{leb, eqb, lit<}
use lib.ListN.{length, get_or}
use Rattle.logic.specs.Numbers.{among}
use Rattle.flows.specs.declared.flow.Flow.{Flow}
use Rattle.flows.specs.Flows.{keeps}
use Rattle.refusals.specs.declared.Refusal.TheVariants.{Length, Head, Count, Field, UsedNumber, Unrelated, Limits, Room, TableForm, NotRising, OtherCycle, UnknownFlow, GrantCount, Timing, Overlap, PastCycle, OutsideSpan}
use Rattle.refusals.specs.Tests.{against, after}
use Rattle.refusals.proofs.Below.{Below, below_both, below-unless, below-lowest}
use Rattle.lists.specs.Lists.{head_of, count, place, flows_of}
use Rattle.lists.specs.Facts.{cycle, frame, grants}
use Rattle.lists.specs.Tests.{test1, test2, test3, test1exact, test4, new_number, test5, related_interval, test6, test7, tests1to4, tests1to7}
use Rattle.tables.specs.declared.packed.Grant.{Grant}
use Rattle.tables.specs.Tables.{cycle_of, frame_of, grants_of as grants_in}
use Rattle.tables.specs.Form.{formed, test11, rises, test12, form_tests}
use Rattle.law.specs.Check.{listed, test13, test14, counted, test15, timely, test16, clears, test17, ends, test18, tests14to18, law_tests, check}
use Rattle.offsets.specs.Adding.{with_new, test21, new_tests, list_bytes, table_bytes, test9}

few-below : (n : ℕ) → Below 22 (test3 n)
unfolding test3
few-below n = below-unless 22 (among 1 128 n) Count (lit< tt)

module _ (fs : List Flow) where
  field_below : Below 22 (test4 fs)
  unfolding test4
  field_below = below-lowest 22 Field 1 (map keeps fs) (λ p. lit< tt)

  number-below : Below 22 (test5 fs)
  unfolding test5
  number-below = below-lowest 22 UsedNumber 1 (against new_number [] fs) (λ p. lit< tt)

  interval-below : Below 22 (test6 fs)
  unfolding test6
  interval-below = below-lowest 22 Unrelated 1 (against related_interval [] fs) (λ p. lit< tt)

  limits-below : Below 22 (test7 fs)
  unfolding test7
  limits-below = below-unless 22 (leb (cycle fs / frame fs) 256 && leb (grants fs) 1024) Limits (lit< tt)

list_below : (l : List ℕ) → Below 22 (tests1to7 l)
unfolding tests1to7 tests1to4 test1 test2 test1exact
list_below l =
    let fs = flows_of l in
    let head = eqb (get_or (head_of l) 0 0) 1 && (eqb (get_or (head_of l) 1 0) 1 && eqb (get_or (head_of l) 2 0) 0) in
    below_both 22 (tests1to4 l) _
    (below_both 22 (test1 l) _ (below-unless 22 (leb 4 (length l)) Length (lit< tt))
    (below_both 22 (test2 l) _ (below-unless 22 head Head (lit< tt))
    (below_both 22 (test3 (count l)) _ (few-below (count l))
    (below_both 22 (test1exact l) (test4 fs) (below-unless 22 (eqb (length l) (place (count l))) Length (lit< tt)) (field_below fs)))))
    (below_both 22 (test5 fs) _ (number-below fs) (below_both 22 (test6 fs) (test7 fs) (interval-below fs) (limits-below fs)))

rules_below : (fs : List Flow) (gs : List Grant) → Below 22 (tests14to18 fs gs)
unfolding tests14to18 test14 test15 test16 test17 test18
rules_below fs gs =
    below_both 22 (test14 fs gs) _ (below-lowest 22 UnknownFlow 1 (map (listed fs) gs) (λ p. lit< tt))
    (below_both 22 (test15 fs gs) _ (below-lowest 22 GrantCount 1 (map (counted fs gs) fs) (λ p. lit< tt))
    (below_both 22 (test16 fs gs) _ (below-lowest 22 Timing 1 (against (timely 0 fs) [] gs) (λ p. lit< tt))
    (below_both 22 (test17 fs gs) (test18 fs gs) (below-lowest 22 Overlap 1 (against (after (clears fs)) [] gs) (λ p. lit< tt))
    (below-lowest 22 PastCycle 1 (map (ends fs) gs) (λ p. lit< tt)))))

pub check-below : (l t : List ℕ) → Below 22 (check l t)
unfolding check form_tests test11 test12 law_tests test13
check-below l t =
    let fs = flows_of l in
    below_both 22 (tests1to7 l) _ (list_below l)
    (below_both 22 (form_tests t) (law_tests fs t)
    (below_both 22 (test11 t) (test12 (grants_in t)) (below-unless 22 (formed t) TableForm (lit< tt))
    (below-lowest 22 NotRising 1 (against (after rises) [] (grants_in t)) (λ p. lit< tt)))
    (below_both 22 (test13 fs t) (tests14to18 fs (grants_in t))
    (below-unless 22 (eqb (cycle_of t) (cycle fs) && eqb (frame_of t) (frame fs)) OtherCycle (lit< tt)) (rules_below fs (grants_in t))))

pub new-below : (fs : List Flow) (f : Flow) → Below 22 (new_tests fs f)
unfolding new_tests test21
new-below fs f =
    let new = with_new fs f in
    below_both 22 (test3 (length new)) _ (few-below (length new))
    (below_both 22 (test4 new) _ (field_below new)
    (below_both 22 (test5 new) _ (number-below new)
    (below_both 22 (test6 new) _ (interval-below new)
    (below_both 22 (test21 fs f) (test7 new) (below-unless 22 (leb (frame fs) f.interval && leb f.interval (cycle fs)) OutsideSpan (lit< tt))
    (limits-below new)))))

pub room-below : (fs : List Flow) (gs : List Grant) (f : Flow) (n m : ℕ) → Below 22 (test9 fs gs f n m)
unfolding test9
room-below fs gs f n m = below-unless 22 (leb (list_bytes fs f) n && leb (table_bytes fs gs f) m) Room (lit< tt)
