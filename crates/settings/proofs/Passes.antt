-- The list of a run that passes its tests passes tests 1 to 6 of a list. Assumes nothing.
use Rattle.std.proofs.Common.{◌≡◌, ap, ◌∙◌, List, ℕ, length}
use Rattle.refusals.specs.Results.{Passed}
use Rattle.refusals.proofs.Chains.{both_passed}
use Rattle.lists.specs.Lists.{flows_of, list_of}
use Rattle.lists.specs.Tests.{test3, test4, test5, test6, tests1to4}
use Rattle.lists.proofs.Verdicts.{few_passed, kept_exactly}
use Rattle.lists.proofs.RoundTrip.{flows_back, list_passes}
use Rattle.settings.specs.Slots.{Channel, flows_asked}
use Rattle.settings.specs.Tests.{test26, test23, test24, test25, settings_tests}

-- each test of a run that passes them
pub record Passing (ch : Channel) (s : List ℕ) : Type 0 where
  pub channel_there : test26 ch ≡ Passed
  pub sound : test23 s ≡ Passed
  pub complete : test24 s ≡ Passed
  pub whole : test25 ch s ≡ Passed
  pub counted : test3 (length (flows_asked ch s)) ≡ Passed
  pub ruled : test4 (flows_asked ch s) ≡ Passed
  pub new_numbers : test5 (flows_asked ch s) ≡ Passed
  pub related_intervals : test6 (flows_asked ch s) ≡ Passed

pub passing : (ch : Channel) (s : List ℕ) → settings_tests ch s ≡ Passed → Passing ch s
unfolding settings_tests
passing ch s e =
    let a = both_passed (test26 ch) _ e in
    let b = both_passed (test23 s) _ a.1 in
    let c = both_passed (test24 s) _ b.1 in
    let d = both_passed (test25 ch s) _ c.1 in
    let f = both_passed (test3 (length (flows_asked ch s))) _ d.1 in
    let g = both_passed (test4 (flows_asked ch s)) _ f.1 in
    let h = both_passed (test5 (flows_asked ch s)) _ g.1 in
    record {
      channel_there = a.0;
      sound = b.0;
      complete = c.0;
      whole = d.0;
      counted = f.0;
      ruled = g.0;
      new_numbers = h.0;
      related_intervals = h.1;
    }

-- the list of the flows that a run asks for passes tests 1 to 4, has exactly these flows, and passes tests 5 and 6
pub list_passes_1_to_6 : (ch : Channel) (s : List ℕ) → settings_tests ch s ≡ Passed
    → let l = list_of (flows_asked ch s) in
    (tests1to4 l ≡ Passed) × (flows_of l ≡ flows_asked ch s) × (test5 (flows_of l) ≡ Passed) × (test6 (flows_of l) ≡ Passed)
list_passes_1_to_6 ch s e =
    let fs = flows_asked ch s in
    let p = passing ch s e in
    let n = few_passed (length fs) p.counted in
    let ruled = (kept_exactly fs).0 p.ruled in
    let back = flows_back fs n.0 n.1 ruled in
    (list_passes fs n.0 n.1 ruled, back, ap test5 back ∙ p.new_numbers, ap test6 back ∙ p.related_intervals)
