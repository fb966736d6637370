-- Live add's answer and its two rooms, step by step. Assumes nothing.
use Rattle.std.proofs.Common.{Bool, ◌≡◌, refl, sym, ap, subst, ◌∙◌, true, false, cond, List, ◌++◌, ℕ, ◌+◌, ◌/◌, ◌≤◌, ◌<◌, ltb, leb, length, drop, Ok, Err, Some, None, arith, leb-true, Option, Result, ok_or}
use Rattle.logic.proofs.Tests.{and_both}
use Rattle.flows.specs.declared.flow.Flow.{Flow}
use Rattle.flows.specs.Flows.{keeps}
use Rattle.refusals.specs.declared.Refusal.{Refusal}
use Rattle.refusals.specs.declared.Refusal.TheVariants.{Count, Field, Room, NoOffset}
use Rattle.refusals.specs.Results.{Checked, Passed, Refused, Written}
use Rattle.refusals.specs.Tests.{◌⟫◌, unless}
use Rattle.refusals.specs.Answers.{written}
use Rattle.refusals.proofs.Chains.{both_passed, unless_passed}
use Rattle.refusals.proofs.Rooms.{ends-written}
use Rattle.lists.specs.Lists.{count, flows_of}
use Rattle.lists.specs.Tests.{tests1to4, tests1to7}
use Rattle.tables.specs.Tables.{count as table_count, cycle_of, frame_of, place as table_place, grants_of as grants_in, table_of}
use Rattle.law.specs.Check.{check}
use Rattle.offsets.specs.Offsets.{offset}
use Rattle.offsets.specs.Adding.{new_tests, list_bytes, table_bytes, test9, test22, add_tests, offset_found, new_list, new_table, table_added, add_answer, room_of_list, room_of_table}
use Rattle.offsets.proofs.Joining.{length-new_list, length-new_table}
use Rattle.offsets.proofs.Adding.{each_passed, answered, offset-smallest}
use Rattle.pairing.specs.Parts.{new_pair_tests}
use Rattle.adding.specs.Parts.{new_record, limit_tests, later_tests, Joins, grants_after}
use Rattle.adding.proofs.Verdicts.{list_passes, new_told, tests_told, table_longer}
use Rattle.adding.proofs.Tabling.{table_same}

-- ---- the answer

-- a record of the new list is made of the flow itself, if there is room for one and the flow keeps its rule
record_made : (l : List ℕ) (f g : Flow) → new_record l f ≡ Ok g → (f ≡ g) × (ltb (count l) 128 ≡ true) × (keeps f ≡ true)
record_made l f g e = go (ltb (count l) 128) (keeps f) e
  where
    go : (a b : Bool) → ◌≡◌ {A = Result Flow Refusal} (cond a (cond b (Ok f) (Err (Field (count l + 1)))) (Err Count)) (Ok g) → (f ≡ g) × (a ≡ true) × (b ≡ true)
    go true true q = (cc, refl, refl)
    go true false q = let z : ◌≡◌ {A = ℕ} 0 1 = cc in absurd (omega arith)
    go false b q = let z : ◌≡◌ {A = ℕ} 0 1 = cc in absurd (omega arith)

module _ (l t : List ℕ) (f : Flow) (n m : ℕ) where
  -- what the tests come to is the answer
  answer_is : (c : Checked) → add_tests l t f n m ≡ c → elim c [ Ok _ ↦ Ok (offset_found (flows_of l) (grants_in t) f) | Err r ↦ Err r ] ≡ add_answer l t f n m
  unfolding add_answer
  answer_is c e = rw (e, add_answer)

  -- the old list or table is refused
  pub check_refuses : (r : Refusal) → check l t ≡ Refused r → Err r ≡ add_answer l t f n m
  unfolding add_tests
  check_refuses r e = answer_is (Refused r) (rw e)

  module _ (ok : check l t ≡ Passed) where
    -- the new flow is refused as a record of the new list
    pub record_refuses : (r : Refusal) → new_record l f ≡ Err r → Err r ≡ add_answer l t f n m
    record_refuses r e = answer_is (Refused r) (tests_told l t f ok n m ∙ go (ltb (count l) 128) (keeps f) e)
      where
        go : (a b : Bool) → ◌≡◌ {A = Result Flow Refusal} (cond a (cond b (Ok f) (Err (Field (count l + 1)))) (Err Count)) (Err r)
            → (unless a Count ⟫ unless b (Field (count l + 1)) ⟫ later_tests l t f n m ⟫ test22 (flows_of l) (grants_in t) f) ≡ Refused r
        go true true q = let z : ◌≡◌ {A = ℕ} 0 1 = cc in absurd (omega arith)
        go true false q = cc
        go false b q = cc

    module _ (g : Flow) (made : new_record l f ≡ Ok g) where
      -- what is left of the tests
      left : add_tests l t f n m ≡ (later_tests l t g n m ⟫ test22 (flows_of l) (grants_in t) g)
      left = let r = record_made l f g made in rw (tests_told l t f ok n m, r.1, r.2, r.0)

      -- one of the later tests refuses
      pub later_refuses : (r : Refusal) → later_tests l t g n m ≡ Refused r → Err r ≡ add_answer l t f n m
      later_refuses r e = answer_is (Refused r) (left ∙ rw e)

      module _ (pass : later_tests l t g n m ≡ Passed) where
        -- all of them pass
        pub joins : Joins l t g
        joins =
            let r = record_made l f g made in
            let a = both_passed (new_pair_tests (flows_of l) g) _ pass in
            let b = both_passed (limit_tests t g) _ a.1 in
            record { checked = ok; new = new_told l t g ok ∙ rw (← r.0) (rw (r.1, r.2, r.0, a.0, b.0)) }

        -- no offset is found
        pub offset_refuses : (r : Refusal) → ok_or (offset (flows_of l) (grants_in t) g) NoOffset ≡ Err r → Err r ≡ add_answer l t f n m
        unfolding test22
        offset_refuses r e = answer_is (Refused r) (left ∙ rw pass (go (offset (flows_of l) (grants_in t) g) e))
          where
            go : (x : Option ℕ) → ok_or x NoOffset ≡ Err r → elim x [ None ↦ Refused NoOffset | Some o ↦ Passed ] ≡ Refused r
            go None q = cc
            go (Some o) q = let z : ◌≡◌ {A = ℕ} 0 1 = cc in absurd (omega arith)

        -- an offset is found
        pub offset_answers : (o : ℕ) → ok_or (offset (flows_of l) (grants_in t) g) NoOffset ≡ Ok o → Ok o ≡ add_answer l t f n m
        unfolding test22 offset_found
        offset_answers o e = go (offset (flows_of l) (grants_in t) g) refl e
          where
            go : (x : Option ℕ) → offset (flows_of l) (grants_in t) g ≡ x → ok_or x NoOffset ≡ Ok o → Ok o ≡ add_answer l t f n m
            go None h q = let z : ◌≡◌ {A = ℕ} 0 1 = cc in absurd (omega arith)
            go (Some p) h q =
                let same : p ≡ o = cc in
                let is : o ≡ offset_found (flows_of l) (grants_in t) f = rw ((record_made l f g made).0, offset_found, h) (sym same) in
                ap (λ (x : ℕ). Ok x) is ∙ answer_is Passed (left ∙ rw (pass, test22, h))

-- ---- the rooms

module _ (l t : List ℕ) (f : Flow) (lr tr : List ℕ) where
  -- where a refusal is answered both are as they were
  pub stays : (r : Refusal) → Err r ≡ add_answer l t f (length lr) (length tr) → (lr ≡ room_of_list l t f lr (length tr)) × (tr ≡ room_of_table l t f (length lr) tr)
  unfolding add_answer room_of_list room_of_table written
  stays r e = go (add_tests l t f (length lr) (length tr)) e
    where
      go : (c : Checked) → ◌≡◌ {A = Written} (Err r) (elim c [ Ok _ ↦ Ok (offset_found (flows_of l) (grants_in t) f) | Err r ↦ Err r ])
          → (lr ≡ written c (new_list l f) lr) × (tr ≡ written c (table_added l t f) tr)
      go (Err q) i = (refl, refl)
      go (Ok tt) i = let z : ◌≡◌ {A = ℕ} 0 1 = cc in absurd (omega arith)

-- where an offset is answered, for the flow of the new record
module _ (l t : List ℕ) (f g : Flow) (made : new_record l f ≡ Ok g) (lr tr : List ℕ) (o : ℕ) (e : Ok o ≡ add_answer l t f (length lr) (length tr)) where
  passed : (add_tests l t f (length lr) (length tr) ≡ Passed) × (offset_found (flows_of l) (grants_in t) f ≡ o)
  passed = answered l t f (length lr) (length tr) o (sym e)

  tested : (check l t ≡ Passed) × (new_tests (flows_of l) f ≡ Passed) × (test9 (flows_of l) (grants_in t) f (length lr) (length tr) ≡ Passed)
      × (test22 (flows_of l) (grants_in t) f ≡ Passed)
  tested = each_passed l t f (length lr) (length tr) passed.0

  -- the bytes of the new table, by the old one
  bytes : table_place (table_count t + cycle_of t / f.interval) ≡ table_bytes (flows_of l) (grants_in t) f
  bytes = table_longer l t f tested.0

  -- both rooms are long enough
  long_enough : (list_bytes (flows_of l) f ≤ length lr) × (table_place (table_count t + cycle_of t / f.interval) ≤ length tr)
  unfolding test9
  long_enough =
      let a = and_both (leb (list_bytes (flows_of l) f) (length lr)) (leb (table_bytes (flows_of l) (grants_in t) f) (length tr)) (unless_passed _ Room tested.2) in
      (leb-true _ _ a.0, rw bytes (leb-true _ _ a.1))

  -- the old list passes, the flow keeps its rule, the offset is below its interval, and both rooms are long enough
  pub may_write : (tests1to4 l ≡ Passed) × (keeps g ≡ true) × (o < g.interval) × (list_bytes (flows_of l) g ≤ length lr)
      × (table_place (table_count t + cycle_of t / g.interval) ≤ length tr)
  unfolding tests1to7
  may_write =
      let r = record_made l f g made in
      let early : o < f.interval = (offset-smallest l t f (length lr) (length tr) o (sym e)).0 in
      let fits = subst (λ (x : Flow). (keeps x ≡ true) × (o < x.interval) × (list_bytes (flows_of l) x ≤ length lr) × (table_place (table_count t + cycle_of t / x.interval) ≤ length tr)) r.0
      (r.2, early, long_enough.0, long_enough.1) in
      ((both_passed (tests1to4 l) _ (list_passes l t f tested.0)).0, fits.0, fits.1, fits.2, fits.3)

  -- the new list is written
  pub list_after : (lo : List ℕ) → lo ≡ new_list l g ++ drop (length (new_list l g)) lr → lo ≡ room_of_list l t f lr (length tr)
  unfolding room_of_list
  list_after lo h =
      (ends-written (add_tests l t f (length lr) (length tr)) (new_list l f) lr _ lo passed.0 (omega (arith, long_enough.0, length-new_list l f)) refl (rw (record_made l f g made).0 h)).1

  -- the new table is written
  pub table_after : (to : List ℕ) → to ≡ table_of (cycle_of t) (frame_of t) (grants_after t g o) ++ drop (table_place (table_count t + cycle_of t / g.interval)) tr
      → to ≡ room_of_table l t f (length lr) tr
  unfolding room_of_table table_added
  table_after to h =
      let J : Joins l t f = record { checked = tested.0; new = tested.1 } in
      let size : table_place (table_count t + cycle_of t / f.interval) ≡ length (new_table l t f o) = bytes ∙ sym (length-new_table l t f o) in
      let written : to ≡ table_of (cycle_of t) (frame_of t) (grants_after t f o) ++ drop (table_place (table_count t + cycle_of t / f.interval)) tr = rw (record_made l f g made).0 h in
      let table : to ≡ new_table l t f o ++ drop (length (new_table l t f o)) tr = rw (← size, ← table_same l t f o J) written in
      rw passed.1 (ends-written (add_tests l t f (length lr) (length tr)) (new_table l t f o) tr _ to passed.0 (omega (arith, long_enough.1, size)) refl table).1
