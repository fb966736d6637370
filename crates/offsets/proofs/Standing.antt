-- Live add leaves the old grants as they stood, and finds an offset exactly where the new table is lawful. Assumes nothing.
use mathlib.Core.Path.{◌≡◌, ap, subst, ◌∙◌}
use mathlib.Core.Bool.{true}
use mathlib.Core.Logic.{◌↔◌}
use mathlib.Core.List.{List, [], ◌∷◌, ◌++◌}
use Prim.Native.Nat.{ℕ, ◌≤◌, ◌<◌}
use lib.Dec.{leb}
use lib.ListN.{length}
use borrow.Author.Tests.{leb-true}
use Rattle.logic.specs.Lists.{All}
use Rattle.logic.proofs.Tests.{and_both}
use Rattle.flows.specs.declared.flow.Flow.{Flow}
use Rattle.refusals.specs.declared.Refusal.TheVariants.{OutsideSpan}
use Rattle.refusals.specs.Results.{Passed}
use Rattle.refusals.proofs.Chains.{both_passed, passed_both, unless_passed}
use Rattle.lists.specs.Lists.{flows_of, list_of}
use Rattle.lists.specs.Facts.{cycle, frame}
use Rattle.lists.specs.Tests.{test3, test4, test5, test6, test7, tests1to4, tests1to7}
use Rattle.lists.specs.Accepted.{Accepted}
use Rattle.lists.proofs.Verdicts.{Few, few_passed, kept_exactly}
use Rattle.lists.proofs.Accepted.{accepted}
use Rattle.lists.proofs.OneMore.{cycle_same, frame_same}
use Rattle.lists.proofs.RoundTrip.{flows_back, list_passes}
use Rattle.tables.specs.Tables.{grants_of as grants_in}
use Rattle.tables.proofs.Meaning.{Holds, grants-table}
use Rattle.law.specs.Check.{to, check}
use Rattle.law.specs.Lawful.{Lawful}
use Rattle.law.proofs.Reading.{Reads, passes_reads}
use Rattle.law.proofs.CheckIsLaw.{check_is_law}
use Rattle.law.proofs.Demand.{check_parts, check_is_lawful}
use Rattle.law.proofs.Oversold.{passes-length}
use Rattle.law.proofs.Packed.{held, packed-passes}
use Rattle.offsets.specs.Offsets.{new_grants, fits, joined, others}
use Rattle.offsets.specs.Adding.{with_new, test21, new_tests, new_list, new_table_grants, new_table}
use Rattle.offsets.proofs.Fitting.{New, old-grants, new_grants_lem, new-holds, new-rising, new_inside, new_law, reads_fits, standing}

-- what tests 3 to 6, 21 and 7 leave of the new flow
record Tested (fs : List Flow) (f : Flow) : Type 0 where
  few : Few (length (fs ++ (f ∷ [])))
  kept : test4 (fs ++ (f ∷ [])) ≡ Passed
  numbered : test5 (fs ++ (f ∷ [])) ≡ Passed
  related : test6 (fs ++ (f ∷ [])) ≡ Passed
  low : frame fs ≤ f.interval
  high : f.interval ≤ cycle fs
  limited : test7 (fs ++ (f ∷ [])) ≡ Passed

tested : (fs : List Flow) (f : Flow) → new_tests fs f ≡ Passed → Tested fs f
unfolding new_tests with_new test21
tested fs f e =
    let new = fs ++ (f ∷ []) in
    let a = both_passed (test3 (length new)) _ e in
    let b = both_passed (test4 new) _ a.1 in
    let c = both_passed (test5 new) _ b.1 in
    let d = both_passed (test6 new) _ c.1 in
    let i = both_passed (test21 fs f) (test7 new) d.1 in
    let s = and_both (leb (frame fs) f.interval) (leb f.interval (cycle fs)) (unless_passed _ OutsideSpan i.0) in
    record {
      few = few_passed (length new) a.0;
      kept = b.0;
      numbered = c.0;
      related = d.0;
      low = leb-true _ _ s.0;
      high = leb-true _ _ s.1;
      limited = i.1;
    }

module _ (l t : List ℕ) (f : Flow) (passes : check l t ≡ Passed) (new : new_tests (flows_of l) f ≡ Passed) where
  abbrev old : List Flow
  old = flows_of l

  abbrev all : List Flow
  all = old ++ (f ∷ [])

  is : Tested old f
  is = tested old f new

  -- the new list's flows are the old ones, and behind them the new one
  pub list_back : flows_of (new_list l f) ≡ flows_of l ++ (f ∷ [])
  unfolding new_list with_new
  list_back = flows_back all is.few.0 is.few.1 ((kept_exactly all).0 is.kept)

  -- they pass tests 1 to 7
  list_tested : tests1to7 (new_list l f) ≡ Passed
  unfolding new_list with_new tests1to7
  list_tested =
      passed_both (tests1to4 (list_of all)) _ (list_passes all is.few.0 is.few.1 ((kept_exactly all).0 is.kept))
      (rw list_back (passed_both (test5 all) _ is.numbered (passed_both (test6 all) _ is.related is.limited)))

  -- so it is accepted
  ok : Accepted all
  ok = subst Accepted list_back (accepted (new_list l f) list_tested)

  -- the old grants and the new flow
  -- the new flow beside the old grants
  pub stands : New old f (grants_in t)
  stands =
      record {
        ok = ok;
        low = is.low;
        high = is.high;
        reads = (passes_reads old (grants_in t)).0 ((check_parts l t).0 passes).rules;
        law = ((check_is_lawful l t).0 passes).law;
      }

  -- the old grants stand as they stood, all of them
  pub old_stand : (o : ℕ) → others f.number (new_table_grants l t f o) ≡ grants_in t
  unfolding new_table_grants
  old_stand o = old-grants old f (grants_in t) stands o

  -- and the grants besides them are the new flow's
  pub new_stand : (o : ℕ) → to f.number (new_table_grants l t f o) ≡ new_grants (cycle (flows_of l)) f o
  unfolding new_table_grants
  new_stand o = new_grants_lem old f (grants_in t) stands o

  -- a packed table can hold them all
  pub new_held : (o : ℕ) → o < f.interval → Holds (cycle (flows_of l)) (frame (flows_of l)) (new_table_grants l t f o)
  unfolding new_table_grants
  new_held =
      let p = (check_parts l t).0 passes in
      let accepted-old = accepted l p.list in
      new-holds old f (grants_in t) stands (passes-length old accepted-old.distinct (grants_in t) p.rules) (held old accepted-old (grants_in t) p.rules)

  -- a lawful table of the new list, as tests 14 to 18 read it
  lawful_reads : (u : List ℕ) → Lawful (new_list l f) u → Reads all (grants_in u)
  lawful_reads u w =
      subst (λ (fs : List Flow). Reads fs (grants_in u)) list_back
      ((passes_reads (flows_of (new_list l f)) (grants_in u)).0 ((check_parts (new_list l f) u).0 ((check_is_lawful (new_list l f) u).1 w)).rules)

  module _ (o : ℕ) where
    -- where the flow fits the new pair passes the check
    pub fits-passes : fits (flows_of l) (grants_in t) f o ≡ true → check (new_list l f) (new_table l t f o) ≡ Passed
    unfolding new_table new_table_grants
    fits-passes fit =
        let c : cycle (flows_of (new_list l f)) ≡ cycle old = ap cycle list_back ∙ cycle_same old f is.low is.high in
        let φ : frame (flows_of (new_list l f)) ≡ frame old = ap frame list_back ∙ frame_same old f is.low is.high in
        let tab = joined (new_grants (cycle old) f o) (grants_in t) in
        let rises = new-rising old f (grants_in t) stands o fit in
        let obeys = new_law old f (grants_in t) stands o fit in
        let inside = new_inside old f (grants_in t) stands o fit in
        let pass = (check_is_law all ok tab).1 (rises, obeys, inside) in
        rw (c, φ) at (packed-passes (new_list l f) tab list_tested pass.0 (rw list_back pass.1))

    -- and where the new table is lawful the flow fits
    lawful-fits : o < f.interval → Lawful (new_list l f) (new_table l t f o) → fits (flows_of l) (grants_in t) f o ≡ true
    unfolding new_table new_table_grants
    lawful-fits early w =
        let tab = joined (new_grants (cycle old) f o) (grants_in t) in
        let back : grants_in (new_table l t f o) ≡ tab = grants-table (cycle old) (frame old) tab (new_held o early) in
        let r : Reads all tab = subst (Reads all) back (lawful_reads (new_table l t f o) w) in
        reads_fits old f (grants_in t) stands tab r (old_stand o) o (new_stand o)

    -- the new flow fits at an offset exactly where the new table is lawful for the new list
    pub fits_exactly : o < f.interval → (fits (flows_of l) (grants_in t) f o ≡ true) ↔ Lawful (new_list l f) (new_table l t f o)
    fits_exactly early = (λ e. (check_is_lawful (new_list l f) (new_table l t f o)).0 (fits-passes e), lawful-fits early)

  -- and where the old grants stand as they stood in any lawful table of the new list, with the new flow's grants not late, there is
  -- an offset at which it fits
  pub standing-fits : (u : List ℕ) → Lawful (new_list l f) u → others f.number (grants_in u) ≡ grants_in t → All (λ g. g.late ≡ 0) (to f.number (grants_in u))
      → (o : ℕ) × (o < f.interval) × (fits (flows_of l) (grants_in t) f o ≡ true)
  standing-fits u w = standing old f (grants_in t) stands (grants_in u) (lawful_reads u w)
