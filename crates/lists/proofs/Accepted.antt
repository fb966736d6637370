-- What passes tests 1 to 7 is an accepted list. Assumes nothing.
use mathlib.Core.Path.{◌≡◌, sym}
use mathlib.Core.Bool.{true, not}
use mathlib.Core.List.{List, [], ◌∷◌}
use Prim.Native.Nat.{ℕ}
use lib.Dec.{eqb}
use borrow.Author.Tests.{eq-eqb}
use Rattle.logic.proofs.Tests.{true-not-false}
use Rattle.logic.proofs.Members.{all_imp}
use Rattle.flows.specs.declared.flow.Flow.{Flow}
use Rattle.refusals.specs.declared.Refusal.TheVariants.{UsedNumber, Unrelated}
use Rattle.refusals.specs.Results.{Passed}
use Rattle.refusals.specs.Tests.{◌⟫◌}
use Rattle.refusals.proofs.Chains.{both_passed}
use Rattle.refusals.proofs.Entries.{Pairs, pairs_passed}
use Rattle.lists.specs.Lists.{count, flows_of}
use Rattle.lists.specs.Facts.{related}
use Rattle.lists.specs.Tests.{test1, test2, test3, test1exact, test4, new_number, test5, related_interval, test6, test7, tests1to4, tests1to7}
use Rattle.lists.proofs.Records.{length-flows}
use Rattle.lists.proofs.Verdicts.{few_passed, limited_passed, kept_exactly}
use Rattle.lists.specs.Accepted.{Distinct, Related, Accepted}

-- test 5
distinct : (fs : List Flow) → Pairs (λ g f. not (eqb g.number f.number) ≡ true) fs → Distinct fs
distinct [] p = tt
distinct (f ∷ fs) p = (
  all_imp (λ g. not (eqb f.number g.number) ≡ true) (λ g. f.number ≡ g.number → ⊥) fs
      (λ g t e. true-not-false (sym (rw (eq-eqb f.number g.number e) at t))) p.0,
  distinct fs p.1,
)

-- test 6
relates : (fs : List Flow) → Pairs (λ g f. related g.interval f.interval ≡ true) fs → Related fs
relates [] p = tt
relates (f ∷ fs) p = (p.0, relates fs p.1)

-- what passes tests 1 to 7 is what every theorem about planning and about tables asks of a list
pub accepted : (l : List ℕ) → tests1to7 l ≡ Passed → Accepted (flows_of l)
unfolding tests1to7 tests1to4 test4 test5 new_number test6 related_interval
accepted l e =
    let fs = flows_of l in
    let a = both_passed (tests1to4 l) (test5 fs ⟫ test6 fs ⟫ test7 fs) e in
    let b = both_passed (test5 fs) (test6 fs ⟫ test7 fs) a.1 in
    let c = both_passed (test6 fs) (test7 fs) b.1 in
    let h = both_passed (test1 l) (test2 l ⟫ test3 (count l) ⟫ test1exact l ⟫ test4 fs) a.0 in
    let i = both_passed (test2 l) (test3 (count l) ⟫ test1exact l ⟫ test4 fs) h.1 in
    let j = both_passed (test3 (count l)) (test1exact l ⟫ test4 fs) i.1 in
    let k = both_passed (test1exact l) (test4 fs) j.1 in
    let n = few_passed (count l) j.0 in
    let limits = limited_passed fs c.1 in
    record {
      filled = rw (length-flows l) n.0;
      few = rw (length-flows l) n.1;
      ruled = (kept_exactly fs).0 k.1;
      distinct = distinct fs (pairs_passed (λ g f. not (eqb g.number f.number)) UsedNumber 1 fs b.0);
      related = relates fs (pairs_passed (λ g f. related g.interval f.interval) Unrelated 1 fs c.0);
      frames_le = limits.0;
      grants_le = limits.1;
    }
