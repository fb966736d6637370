-- The new flow's tests, verdict by verdict. Assumes nothing.
use Rattle.std.proofs.Common.{◌≡◌, sym, ap, ap₂, ◌∙◌, List, [], ◌∷◌, ℕ, ◌+◌, ◌/◌, ◌≤◌, ◌<◌, ◌&&◌, leb, ltb, length, length-append, arith, le-leb, leb-true, lt-ltb, le-ltb}
use borrow.Author.Tests.{lt-leb}
use Rattle.logic.proofs.Tests.{by_lt, by_test, and_both}
use Rattle.flows.specs.declared.flow.Flow.{Flow}
use Rattle.flows.specs.Flows.{keeps}
use Rattle.refusals.specs.declared.Refusal.TheVariants.{Count, Field, Limits, Room}
use Rattle.refusals.specs.Results.{Checked, Passed, Refused}
use Rattle.refusals.specs.Tests.{◌⟫◌, unless}
use Rattle.refusals.proofs.Chains.{both_passed, chain_assoc}
use Rattle.refusals.proofs.Walks.{more_alone}
use Rattle.lists.specs.Lists.{count, flows_of}
use Rattle.lists.specs.Facts.{cycle, frame, grants_of, grants}
use Rattle.lists.specs.Tests.{test1, test2, test3, test1exact, test4, test5, test6, test7, tests1to4, tests1to7}
use Rattle.lists.specs.Accepted.{Accepted}
use Rattle.lists.proofs.Records.{length-flows}
use Rattle.lists.proofs.RoundTrip.{listed}
use Rattle.lists.proofs.Verdicts.{few, not-few, limited, not_limited}
use Rattle.lists.proofs.Accepted.{accepted}
use Rattle.lists.proofs.OneMore.{cycle_same, frame_same, grants-more}
use Rattle.tables.specs.Tables.{count as table_count, cycle_of, frame_of, place as table_place, grants_of as grants_in}
use Rattle.tables.proofs.Records.{length-grants}
use Rattle.pairing.specs.Parts.{new_pair_tests}
use Rattle.pairing.proofs.Verdicts.{added_pairs}
use Rattle.law.specs.Check.{check}
use Rattle.law.proofs.Demand.{check_parts, check_is_lawful}
use Rattle.law.proofs.Oversold.{passes-length}
use Rattle.offsets.specs.Adding.{with_new, test21, new_tests, list_bytes, table_bytes, test9, test22, add_tests}
use Rattle.adding.specs.Parts.{limit_tests, roomy, later_tests}

-- ---- 21, and 7 on the new list

-- where the new flow's interval is among the old ones
module _ (fs : List Flow) (f : Flow) (low : frame fs ≤ f.interval) (high : f.interval ≤ cycle fs) where
  -- 21 passes, and 7 is left
  then_limits : (c : Checked) → c ≡ test7 (with_new fs f) → c ≡ (test21 fs f ⟫ test7 (with_new fs f))
  unfolding test21
  then_limits c e = rw (le-leb (frame fs) f.interval low, le-leb f.interval (cycle fs) high) e

  pub too_many : 1024 < grants fs + grants_of (cycle fs) f → Refused Limits ≡ (test21 fs f ⟫ test7 (with_new fs f))
  unfolding with_new
  too_many h = then_limits _ (sym (not_limited (with_new fs f) (λ k. omega (arith, k.1, grants-more fs f low high))))

module _ (fs : List Flow) (f : Flow) (ok : Accepted fs) where
  -- 7 on the new list is the number of its grants, where the new flow's interval is among the old ones
  limits : frame fs ≤ f.interval → f.interval ≤ cycle fs → unless (leb (grants fs + grants_of (cycle fs) f) 1024) Limits ≡ test7 (with_new fs f)
  unfolding with_new
  limits low high =
      let more = grants-more fs f low high in
      by_lt 1024 (grants fs + grants_of (cycle fs) f)
      (λ h. rw (lt-leb _ 1024 h) (sym (not_limited (with_new fs f) (λ k. omega (arith, k.1, more)))))
      (λ h. rw (le-leb _ 1024 h) (sym (limited (with_new fs f) (rw (cycle_same fs f low high, frame_same fs f low high) ok.frames_le, omega (arith, more)))))

  -- and so it is behind 21
  behind_21 : (test21 fs f ⟫ unless (leb (grants fs + grants_of (cycle fs) f) 1024) Limits) ≡ (test21 fs f ⟫ test7 (with_new fs f))
  unfolding test21
  behind_21 =
      by_test (leb (frame fs) f.interval && leb f.interval (cycle fs))
      (λ t. let s = and_both (leb (frame fs) f.interval) (leb f.interval (cycle fs)) t in rw t (limits (leb-true _ _ s.0) (leb-true _ _ s.1)))
      (λ t. rw t)

-- ---- what a table that passes tells

module _ (l t : List ℕ) (f : Flow) (ok : check l t ≡ Passed) where
  -- the list's cycle, frame and grants
  pub told : (cycle_of t ≡ cycle (flows_of l)) × (frame_of t ≡ frame (flows_of l)) × (table_count t ≡ grants (flows_of l))
  told =
      let w = (check_is_lawful l t).0 ok in
      let p = (check_parts l t).0 ok in
      (w.same_cycle, w.same_frame, sym (length-grants t) ∙ passes-length (flows_of l) (accepted l p.list).distinct (grants_in t) p.rules)

  -- and with the new flow's the new list's grants
  pub told_grants : table_count t + cycle_of t / f.interval ≡ grants (flows_of l) + grants_of (cycle (flows_of l)) f
  unfolding grants_of
  told_grants = ap₂ (λ (n c : ℕ). n + c / f.interval) told.2 told.0

  -- the list passes tests 1 to 7
  pub list_passes : tests1to7 l ≡ Passed
  list_passes = ((check_parts l t).0 ok).list

  -- 21, and 7 on the new list, by what the table says
  limits_told : limit_tests t f ≡ (test21 (flows_of l) f ⟫ test7 (with_new (flows_of l) f))
  unfolding test21
  limits_told = rw (told_grants, told.0, told.1) (behind_21 (flows_of l) f (accepted l list_passes))

  -- 5 and 6 on the new list are those of the new flow
  pairs_told : new_pair_tests (flows_of l) f ≡ (test5 (with_new (flows_of l) f) ⟫ test6 (with_new (flows_of l) f))
  unfolding with_new tests1to7
  pairs_told =
      let fs = flows_of l in
      let a = both_passed (tests1to4 l) _ list_passes in
      let p = both_passed (test5 fs) _ a.1 in
      let q = both_passed (test6 fs) _ p.1 in
      added_pairs fs f p.0 q.0

  -- for 9: the bytes of the new list and of the new table, by the old ones
  pub list_longer : length l + 6 ≡ list_bytes (flows_of l) f
  unfolding list_bytes with_new tests1to7
  list_longer =
      let L = listed l (both_passed (tests1to4 l) _ list_passes).0 in
      omega (arith, L.exactly, length-append (flows_of l) (f ∷ []), length-flows l)

  pub table_longer : table_place (table_count t + cycle_of t / f.interval) ≡ table_bytes (flows_of l) (grants_in t) f
  unfolding table_bytes grants_of
  table_longer = rw (told.0, length-grants t)

  -- and so 9
  room_told : (n m : ℕ) → unless (roomy l t f n m) Room ≡ test9 (flows_of l) (grants_in t) f n m
  unfolding test9
  room_told n m = rw (list_longer, table_longer)

  -- ---- 3 and 4 on the new list

  -- one flow more
  long : length (with_new (flows_of l) f) ≡ count l + 1
  unfolding with_new
  long = omega (arith, length-append (flows_of l) (f ∷ []), length-flows l)

  -- test 4 on the new list is that of the new flow
  new_fields : test4 (with_new (flows_of l) f) ≡ unless (keeps f) (Field (count l + 1))
  unfolding test4 with_new tests1to4 tests1to7
  new_fields =
      let a = both_passed (test1 l) _ (both_passed (tests1to4 l) _ list_passes).0 in
      let b = both_passed (test2 l) _ a.1 in
      let c = both_passed (test3 (count l)) _ b.1 in
      let d = both_passed (test1exact l) _ c.1 in
      more_alone Field keeps (flows_of l) f d.1 ∙ ap (λ (n : ℕ). unless (keeps f) (Field (n + 1))) (length-flows l)

  -- test 3 is that there is room for one record more
  new_few : test3 (length (with_new (flows_of l) f)) ≡ unless (ltb (count l) 128) Count
  new_few =
      by_lt (count l) 128
      (λ h. rw (lt-ltb (count l) 128 h) (few (length (with_new (flows_of l) f)) (omega (arith, long), omega (arith, long))))
      (λ h. rw (le-ltb (count l) 128 h) (not-few (length (with_new (flows_of l) f)) (λ k. omega (arith, k.1, long))))

  -- ---- the new flow's tests, as the code takes them

  -- all on the new list
  pub new_told : new_tests (flows_of l) f ≡ (unless (ltb (count l) 128) Count ⟫ unless (keeps f) (Field (count l + 1)) ⟫ new_pair_tests (flows_of l) f ⟫ limit_tests t f)
  unfolding new_tests
  new_told = rw (new_few, new_fields, pairs_told, limits_told, chain_assoc)

  -- and all of them
  pub tests_told : (n m : ℕ) → add_tests l t f n m
      ≡ (unless (ltb (count l) 128) Count ⟫ unless (keeps f) (Field (count l + 1)) ⟫ later_tests l t f n m ⟫ test22 (flows_of l) (grants_in t) f)
  unfolding add_tests
  tests_told n m = rw (ok, new_told, room_told n m) (simp chain_assoc)
