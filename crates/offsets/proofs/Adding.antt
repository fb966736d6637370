-- Live add: the new pair passes the check, the offset is the smallest, and 22 is answered where there is none. Assumes nothing.
use Rattle.std.proofs.Common.{◌≡◌, refl, sym, ◌∙◌, true, false, ◌↔◌, List, Option, None, Some, Ok, Err, ℕ, ◌<◌, arith}
use Rattle.logic.specs.Lists.{All}
use Rattle.logic.proofs.Tests.{by_test, true-not-false}
use Rattle.flows.specs.declared.flow.Flow.{Flow}
use Rattle.refusals.specs.declared.Refusal.TheVariants.{NoOffset}
use Rattle.refusals.specs.Results.{Checked, Passed, Refused, Written}
use Rattle.refusals.proofs.Chains.{refused-not, both_passed}
use Rattle.refusals.proofs.Below.{second_refuses}
use Rattle.lists.specs.Lists.{flows_of}
use Rattle.tables.specs.declared.packed.Grant.{Grant}
use Rattle.tables.specs.Tables.{grants_of as grants_in}
use Rattle.law.specs.Check.{to, check}
use Rattle.law.specs.Lawful.{Lawful}
use Rattle.offsets.specs.Offsets.{fits, offset, others}
use Rattle.offsets.specs.Adding.{new_tests, test9, test22, add_tests, offset_found, new_list, new_table, add_answer}
use Rattle.offsets.proofs.Smallest.{smallest_exactly, none_exactly}
use Rattle.offsets.proofs.Numbers.{check-below, new-below, room-below}
use Rattle.offsets.proofs.Standing.{fits_exactly, standing-fits}

-- ---- where all tests pass

-- test 22 passes where an offset is found
found : (fs : List Flow) (gs : List Grant) (f : Flow) → test22 fs gs f ≡ Passed → offset fs gs f ≡ Some (offset_found fs gs f)
unfolding test22 offset_found
found fs gs f e = go (offset fs gs f) e
  where
    go : (x : Option ℕ) → elim x [ None ↦ Refused NoOffset | Some o ↦ Passed ] ≡ Passed → x ≡ Some (elim x [ None ↦ 0 | Some o ↦ o ])
    go None q = refused-not NoOffset q
    go (Some o) q = refl

-- where live add's tests pass, each of them does
pub each_passed : (l t : List ℕ) (f : Flow) (n m : ℕ) → add_tests l t f n m ≡ Passed
    → (check l t ≡ Passed) × (new_tests (flows_of l) f ≡ Passed) × (test9 (flows_of l) (grants_in t) f n m ≡ Passed) × (test22 (flows_of l) (grants_in t) f ≡ Passed)
unfolding add_tests
each_passed l t f n m e =
    let fs = flows_of l in
    let gs = grants_in t in
    let a = both_passed (check l t) _ e in
    let b = both_passed (new_tests fs f) _ a.1 in
    let c = both_passed (test9 fs gs f n m) (test22 fs gs f) b.1 in
    (a.0, b.0, c.0, c.1)

-- what live add's tests leave
record Tested (l t : List ℕ) (f : Flow) : Type 0 where
  passes : check l t ≡ Passed
  new : new_tests (flows_of l) f ≡ Passed
  below : offset_found (flows_of l) (grants_in t) f < f.interval
  fit : fits (flows_of l) (grants_in t) f (offset_found (flows_of l) (grants_in t) f) ≡ true
  smaller : (j : ℕ) → j < offset_found (flows_of l) (grants_in t) f → fits (flows_of l) (grants_in t) f j ≡ false

tested : (l t : List ℕ) (f : Flow) (n m : ℕ) → add_tests l t f n m ≡ Passed → Tested l t f
unfolding offset
tested l t f n m e =
    let fs = flows_of l in
    let gs = grants_in t in
    let p = each_passed l t f n m e in
    let y = (smallest_exactly (fits fs gs f) f.interval (offset_found fs gs f)).0 (found fs gs f p.3) in
    record { passes = p.0; new = p.1; below = y.0; fit = y.1; smaller = y.2 }

-- an offset is answered where all tests pass, and is the one that is found
pub answered : (l t : List ℕ) (f : Flow) (n m o : ℕ) → add_answer l t f n m ≡ Ok o → (add_tests l t f n m ≡ Passed) × (offset_found (flows_of l) (grants_in t) f ≡ o)
unfolding add_answer
answered l t f n m o e = go (add_tests l t f n m) e
  where
    go : (c : Checked) → ◌≡◌ {A = Written} (elim c [ Ok _ ↦ Ok (offset_found (flows_of l) (grants_in t) f) | Err r ↦ Err r ]) (Ok o)
        → (c ≡ Passed) × (offset_found (flows_of l) (grants_in t) f ≡ o)
    go (Ok tt) q = (refl, cc)
    go (Err r) q = let z : ◌≡◌ {A = ℕ} 0 1 = cc in absurd (omega arith)

-- the offset answered is below the interval, its table lawful, and no smaller offset's table is
pub offset-smallest : (l t : List ℕ) (f : Flow) (n m o : ℕ) → add_answer l t f n m ≡ Ok o
    → (o < f.interval) × Lawful (new_list l f) (new_table l t f o) × ((j : ℕ) → j < o → Lawful (new_list l f) (new_table l t f j) → ⊥)
offset-smallest l t f n m o e =
    let a = answered l t f n m o e in
    let y = tested l t f n m a.0 in
    let lawful = fits_exactly l t f y.passes y.new in
    rw (← a.1) (
      y.below,
      (lawful (offset_found (flows_of l) (grants_in t) f) y.below).0 y.fit,
      λ j h w. true-not-false (sym ((lawful j (omega (arith, y.below))).1 w) ∙ y.smaller j h),
    )

-- ---- where no offset is found

-- no offset is found exactly where no offset's table is lawful
none-lawful : (l t : List ℕ) (f : Flow) → check l t ≡ Passed → new_tests (flows_of l) f ≡ Passed
    → (test22 (flows_of l) (grants_in t) f ≡ Refused NoOffset) ↔ ((o : ℕ) → o < f.interval → Lawful (new_list l f) (new_table l t f o) → ⊥)
unfolding test22 offset
none-lawful l t f passes new =
    let fs = flows_of l in
    let gs = grants_in t in
    let none-fits = none_exactly (fits fs gs f) f.interval in (
      λ e o h w. true-not-false (sym ((fits_exactly l t f passes new o h).1 w) ∙ none-fits.0 (go (offset fs gs f) e) o h),
      λ n.
          rw (none-fits.1 (λ o h. by_test (fits fs gs f o) (λ e. absurd (n o h ((fits_exactly l t f passes new o h).0 e))) (λ e. e)), test22),
    )
  where
    go : (x : Option ℕ) → elim x [ None ↦ Refused NoOffset | Some o ↦ Passed ] ≡ Refused NoOffset → x ≡ None
    go None q = refl
    go (Some o) q = refused-not NoOffset (sym q)

-- 22 is answered exactly where all other tests pass and no offset's table is lawful
pub refused_22 : (l t : List ℕ) (f : Flow) (n m : ℕ) → (add_tests l t f n m ≡ Refused NoOffset)
    ↔ ((check l t ≡ Passed) × (new_tests (flows_of l) f ≡ Passed) × (test9 (flows_of l) (grants_in t) f n m ≡ Passed) × ((o : ℕ) → o < f.interval → Lawful (new_list l f) (new_table l t f o) → ⊥))
unfolding add_tests
refused_22 l t f n m =
    let fs = flows_of l in
    let gs = grants_in t in (
      λ e.
          let a = second_refuses (check l t) _ NoOffset (check-below l t) e in
          let b = second_refuses (new_tests fs f) _ NoOffset (new-below fs f) a.1 in
          let c = second_refuses (test9 fs gs f n m) (test22 fs gs f) NoOffset (room-below fs gs f n m) b.1 in
          (a.0, b.0, c.0, (none-lawful l t f a.0 b.0).0 c.1),
      λ p. rw (p.0, p.1, p.2) ((none-lawful l t f p.0 p.1).1 p.3),
    )

-- then no lawful table of the new list has the old grants as they stood and the new flow's not late
pub refused_none : (l t : List ℕ) (f : Flow) (n m : ℕ) → add_tests l t f n m ≡ Refused NoOffset → (u : List ℕ) → Lawful (new_list l f) u
    → others f.number (grants_in u) ≡ grants_in t → All (λ g. g.late ≡ 0) (to f.number (grants_in u)) → ⊥
refused_none l t f n m e u w old prompt =
    let p = (refused_22 l t f n m).0 e in
    let y = standing-fits l t f p.0 p.1 u w old prompt in
    p.3 y.0 y.1 ((fits_exactly l t f p.0 p.1 y.0 y.1).0 y.2)
