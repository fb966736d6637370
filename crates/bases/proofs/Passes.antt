-- A list and a base that pass: what is known of them, the new list passes tests 1 to 6, and rounding it again gives it again. Assumes
-- nothing.
use Rattle.std.proofs.Common.{◌≡◌, refl, ap, ap₂, ◌∙◌, Bool, true, ◌&&◌, not, ◌↔◌, List, [], ◌∷◌, ℕ, ◌≤◌, ◌<◌, arith, leb, eqb, length, le-leb, lt-ltb, leb-true}
use lib.ListN.{length-map}
use Rattle.logic.specs.Lists.{All, every}
use Rattle.logic.specs.Numbers.{among}
use Rattle.logic.proofs.Tests.{by_test, among_both}
use Rattle.logic.proofs.Members.{all_imp}
use Rattle.flows.specs.declared.flow.Flow.{Flow}
use Rattle.flows.specs.Flows.{keeps}
use Rattle.flows.proofs.Flows.{keeps_is}
use Rattle.refusals.specs.declared.Refusal.TheVariants.{UsedNumber, NoBase, BelowBase}
use Rattle.refusals.specs.Results.{Passed}
use Rattle.refusals.specs.Tests.{lowest, against}
use Rattle.refusals.proofs.Chains.{both_passed, passed_both, unless_passed}
use Rattle.refusals.proofs.Entries.{each_passed}
use Rattle.lists.specs.Lists.{flows_of, list_of}
use Rattle.lists.specs.Tests.{test4, new_number, test5, test6, tests1to4, tests1to5}
use Rattle.lists.proofs.Records.{length-flows}
use Rattle.lists.proofs.Verdicts.{kept_exactly}
use Rattle.lists.proofs.RoundTrip.{flows_back, list_passes, listed}
use Rattle.bases.specs.Rounding.{rounded, rounded_flow, rounded_flows}
use Rattle.bases.specs.Tests.{test27, reaches, test28, round_tests}
use Rattle.bases.proofs.Largest.{base_least, largest-reaches, rounded-largest}
use Rattle.bases.proofs.Becoming.{becomes}
use Rattle.bases.proofs.Related.{Powered, each_powered, rounded-related}
use Rattle.bases.proofs.Twice.{flows_twice}

-- ---- test 4 on the new list

-- it can only find a size over the new interval
pub new-rule : (c : ℕ) (f : Flow) → 0 < c → c ≤ f.interval → keeps f ≡ true → keeps (rounded_flow c f) ≡ leb f.size (rounded c f.interval)
unfolding keeps rounded_flow
new-rule c f pos h k =
    let is = keeps_is f k in
    let r = rounded c f.interval in
    let l = rounded-largest c f.interval pos h in
    let low : 1 ≤ r = omega (arith, pos, largest-reaches c f.interval r l) in
    let high : r ≤ 4096 = omega (arith, l.not_above, is.interval_le) in
    let capped = (becomes c f pos h).jitter_capped in
    rw
    (le-leb _ _ is.numbered, le-leb _ _ is.number_le, le-leb _ _ is.sized, le-leb _ _ is.size_le, le-leb 1 r low, le-leb r 4096 high, lt-ltb _ _ capped)
    (by_test (leb f.size r) (λ e. rw e) (λ e. rw e))

-- ---- test 5 on the new list

module _ (c : ℕ) where
  -- a flow's number is new among the rounded flows exactly where it was
  same_number : (seen : List Flow) (f : Flow) → new_number (rounded_flows c seen) (rounded_flow c f) ≡ new_number seen f
  unfolding new_number every rounded_flows rounded_flow
  same_number [] f = refl
  same_number (g ∷ seen) f = ap (λ (b : Bool). not (eqb g.number f.number) && b) (same_number seen f)

  -- so each record fares as before
  same_numbers : (seen fs : List Flow) → against new_number (rounded_flows c seen) (rounded_flows c fs) ≡ against new_number seen fs
  unfolding against rounded_flows
  same_numbers seen [] = refl
  same_numbers seen (f ∷ fs) = ap₂ (λ (t : Bool) (ts : List Bool). t ∷ ts) (same_number seen f) (same_numbers (f ∷ seen) fs)

  -- it answers as on the old one
  new_numbers : (fs : List Flow) → test5 (rounded_flows c fs) ≡ test5 fs
  unfolding test5 rounded_flows
  new_numbers fs = ap (lowest UsedNumber 1) (same_numbers [] fs)

-- ---- a list and a base that pass

pub record Passing (c : ℕ) (l : List ℕ) : Type 0 where
  -- the old list passes tests 1 to 5
  pub old_passes : tests1to5 l ≡ Passed
  -- the base is 1 to 4,096
  pub base_from_1 : 1 ≤ c
  pub base_to_4096 : c ≤ 4096
  -- no interval is below the base
  pub reach : All (λ f. c ≤ f.interval) (flows_of l)
  -- the new list passes test 4
  pub ruled : test4 (rounded_flows c (flows_of l)) ≡ Passed

-- test 28 passes exactly where no interval is below the base
reached_exactly : (c : ℕ) (fs : List Flow) → (test28 c fs ≡ Passed) ↔ All (λ f. c ≤ f.interval) fs
unfolding test28 reaches
reached_exactly c fs = each_passed (reaches c) (λ f. c ≤ f.interval) (λ f. (leb-true c f.interval, le-leb c f.interval)) BelowBase 1 fs

-- what passes the tests is such a pair
pub passing : (c : ℕ) (l : List ℕ) → round_tests c l ≡ Passed → Passing c l
unfolding round_tests test27
passing c l e =
    let a = both_passed (tests1to5 l) _ e in
    let b = both_passed (test27 c) _ a.1 in
    let d = both_passed (test28 c (flows_of l)) _ b.1 in
    let base = among_both 1 4096 c (unless_passed (among 1 4096 c) NoBase b.0) in
    record {
      old_passes = a.0;
      base_from_1 = base.0;
      base_to_4096 = base.1;
      reach = (reached_exactly c (flows_of l)).0 d.0;
      ruled = d.1;
    }

-- and such a pair passes the tests
pub passes : (c : ℕ) (l : List ℕ) → Passing c l → round_tests c l ≡ Passed
unfolding round_tests test27
passes c l p =
    passed_both (tests1to5 l) _ p.old_passes
    (passed_both (test27 c) _ (rw (le-leb 1 c p.base_from_1, le-leb c 4096 p.base_to_4096))
    (passed_both (test28 c (flows_of l)) _ ((reached_exactly c (flows_of l)).1 p.reach) p.ruled))

-- ---- the new list

-- it passes tests 1 to 5, has exactly the rounded flows, and passes test 6
pub new_list-passes : (c : ℕ) (l : List ℕ) → round_tests c l ≡ Passed
    → let l' = list_of (rounded_flows c (flows_of l)) in
    (tests1to5 l' ≡ Passed) × (flows_of l' ≡ rounded_flows c (flows_of l)) × (test6 (flows_of l') ≡ Passed)
unfolding tests1to5 rounded_flows
new_list-passes c l e =
    let fs = flows_of l in
    let gs = rounded_flows c fs in
    let p = passing c l e in
    let old = both_passed (tests1to4 l) (test5 fs) p.old_passes in
    let known = listed l old.0 in
    let as_many : length gs ≡ length fs = length-map fs (rounded_flow c) in
    let some : 1 ≤ length gs = omega (arith, as_many, length-flows l, known.some) in
    let most : length gs ≤ 128 = omega (arith, as_many, length-flows l, known.most) in
    let ruled = (kept_exactly gs).0 p.ruled in
    let back = flows_back gs some most ruled in (
      passed_both (tests1to4 (list_of gs)) _ (list_passes gs some most ruled) (ap test5 back ∙ new_numbers c fs ∙ old.1),
      back,
      ap test6 back ∙ rounded-related c fs p.base_from_1 p.reach,
    )

-- no rounded interval is below the base
still_reach : (c : ℕ) (fs : List Flow) → 0 < c → All (λ f. c ≤ f.interval) fs → All (λ f. c ≤ f.interval) (rounded_flows c fs)
still_reach c fs pos a =
    all_imp (Powered c) (λ f. c ≤ f.interval) (rounded_flows c fs) (λ f p. rw p.1 (base_least c p.0)) (each_powered c fs pos a)

-- rounded again with the same base it passes again and stays as it is
pub list_twice : (c : ℕ) (l : List ℕ) → round_tests c l ≡ Passed
    → let l' = list_of (rounded_flows c (flows_of l)) in
    (round_tests c l' ≡ Passed) × (list_of (rounded_flows c (flows_of l')) ≡ l')
list_twice c l e =
    let fs = flows_of l in
    let gs = rounded_flows c fs in
    let p = passing c l e in
    let new = new_list-passes c l e in
    let same : rounded_flows c (flows_of (list_of gs)) ≡ gs = ap (rounded_flows c) new.1 ∙ flows_twice c fs in (
      passes c (list_of gs)
          record {
            old_passes = new.0;
            base_from_1 = p.base_from_1;
            base_to_4096 = p.base_to_4096;
            reach = rw new.1 (still_reach c fs p.base_from_1 p.reach);
            ruled = ap test4 same ∙ p.ruled;
          },
      ap list_of same,
    )
