-- What it says of a table that it passes tests 12 and 14 to 18. Assumes nothing.
use mathlib.Core.Path.{◌≡◌}
use mathlib.Core.Bool.{true}
use mathlib.Core.Logic.{◌↔◌}
use mathlib.Core.List.{List, []}
use Prim.Native.Nat.{◌+◌, ◌≤◌, ◌<◌}
use lib.ListN.{length}
use borrow.Author.Tests.{ltb-true, lt-ltb, leb-true, le-leb, eqb-true, eq-eqb}
use Rattle.logic.specs.Lists.{All}
use Rattle.flows.specs.declared.flow.Flow.{Flow}
use Rattle.refusals.specs.declared.Refusal.TheVariants.{NotRising, UnknownFlow, GrantCount, Timing, Overlap, PastCycle}
use Rattle.refusals.specs.Results.{Passed}
use Rattle.refusals.specs.Tests.{◌⟫◌, against}
use Rattle.refusals.proofs.Chains.{both_passed}
use Rattle.refusals.proofs.Lowest.{Pass, lowest_pass, pass_lowest}
use Rattle.refusals.proofs.Entries.{each_passed, neighbours_passed}
use Rattle.lists.specs.Facts.{cycle, grants_of}
use Rattle.tables.specs.declared.packed.Grant.{Grant}
use Rattle.tables.specs.Form.{rises, test12}
use Rattle.law.specs.Check.{known, slots, to, listed, test14, counted, test15, timely, test16, clears, test17, ends, test18, tests14to18}
use Rattle.law.specs.Law.{Rising, Clear, Inside}

-- tests 14 to 18, each as a fact
pub record Reads (fs : List Flow) (tab : List Grant) : Type 0 where
  pub listed : All (λ r. known fs r.flow ≡ true) tab
  pub counted : All (λ f. length (to f.number tab) ≡ grants_of (cycle fs) f) fs
  pub timely : Pass (against (timely 0 fs) [] tab)
  pub clear : Clear fs tab
  pub inside : Inside fs tab

-- test 12 says that the starts rise
pub reads12 : (tab : List Grant) → (test12 tab ≡ Passed) ↔ Rising tab
unfolding test12 rises
reads12 = neighbours_passed rises (λ p r. p.start < r.start) (λ p r. (ltb-true p.start r.start, lt-ltb p.start r.start)) NotRising 1

module _ (fs : List Flow) (tab : List Grant) where
  reads14 : (test14 fs tab ≡ Passed) ↔ All (λ r. known fs r.flow ≡ true) tab
  unfolding test14 listed
  reads14 = each_passed (listed fs) (λ r. known fs r.flow ≡ true) (λ r. (λ e. e, λ e. e)) UnknownFlow 1 tab

  reads15 : (test15 fs tab ≡ Passed) ↔ All (λ f. length (to f.number tab) ≡ grants_of (cycle fs) f) fs
  unfolding test15 counted
  reads15 =
      each_passed (counted fs tab) (λ f. length (to f.number tab) ≡ grants_of (cycle fs) f)
      (λ f. (eqb-true (length (to f.number tab)) (grants_of (cycle fs) f), eq-eqb (length (to f.number tab)) (grants_of (cycle fs) f))) GrantCount 1 fs

  reads16 : (test16 fs tab ≡ Passed) ↔ Pass (against (timely 0 fs) [] tab)
  unfolding test16
  reads16 = (lowest_pass Timing 1 (against (timely 0 fs) [] tab), pass_lowest Timing 1 (against (timely 0 fs) [] tab))

  reads17 : (test17 fs tab ≡ Passed) ↔ Clear fs tab
  unfolding test17 clears
  reads17 =
      neighbours_passed (clears fs) (λ p r. p.start + slots fs p ≤ r.start)
      (λ p r. (leb-true (p.start + slots fs p) r.start, le-leb (p.start + slots fs p) r.start)) Overlap 1 tab

  reads18 : (test18 fs tab ≡ Passed) ↔ Inside fs tab
  unfolding test18 ends
  reads18 =
      each_passed (ends fs) (λ r. r.start + slots fs r ≤ cycle fs)
      (λ r. (leb-true (r.start + slots fs r) (cycle fs), le-leb (r.start + slots fs r) (cycle fs))) PastCycle 1 tab

  pub passes_reads : (tests14to18 fs tab ≡ Passed) ↔ Reads fs tab
  unfolding tests14to18
  passes_reads = (
    λ h.
        let a = both_passed (test14 fs tab) (test15 fs tab ⟫ test16 fs tab ⟫ test17 fs tab ⟫ test18 fs tab) h in
        let b = both_passed (test15 fs tab) (test16 fs tab ⟫ test17 fs tab ⟫ test18 fs tab) a.1 in
        let c = both_passed (test16 fs tab) (test17 fs tab ⟫ test18 fs tab) b.1 in
        let d = both_passed (test17 fs tab) (test18 fs tab) c.1 in
        record {
          listed = reads14.0 a.0;
          counted = reads15.0 b.0;
          timely = reads16.0 c.0;
          clear = reads17.0 d.0;
          inside = reads18.0 d.1;
        },
    λ r. rw (reads14.1 r.listed, reads15.1 r.counted, reads16.1 r.timely, reads17.1 r.clear, reads18.1 r.inside),
  )
