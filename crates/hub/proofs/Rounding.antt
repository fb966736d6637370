-- ROUNDING. Document 02, L3: "for a base c, each interval becomes the largest c times a power of two not above it, the size stays, and
-- the jitter is capped at the new interval less one. .. Show that the rounded list is always related. The planner and its demands
-- read the rounded list." Here of all that the statement allows. Assumes nothing.
use mathlib.Core.Path.{◌≡◌, refl, sym, ap, ◌∙◌}
use mathlib.Core.Bool.{true}
use mathlib.Core.Logic.{◌↔◌}
use mathlib.Core.List.{List, [], ◌∷◌, ◌++◌}
use Prim.Native.Nat.{ℕ, zero, suc, ◌*◌, ◌^◌, ◌≤◌, ◌<◌}
use native.Mathlib.Nat.{zero-mul}
use native.Mathlib.Omega.{arith}
use lib.ListN.{length, get_or, take, drop, length-map}
use Rattle.logic.specs.Lists.{All}
use Rattle.flows.specs.declared.flow.Flow.{Flow}
use Rattle.flows.specs.Flows.{keeps, no_flow}
use Rattle.flows.proofs.Flows.{keeps_is}
use Rattle.refusals.specs.declared.Refusal.{Refusal}
use Rattle.std.proofs.Common.{Ok}
use Rattle.refusals.specs.Results.{Passed, Refused, Written}
use Rattle.refusals.proofs.Chains.{both_passed}
use Rattle.refusals.proofs.Rooms.{ends-written, written_front}
use Rattle.lists.specs.Lists.{count, place, flow_at, flows_of, list_of}
use Rattle.lists.specs.Facts.{cycle, grants, load}
use Rattle.lists.specs.Tests.{test5, test6, test7, tests1to4, tests1to5, tests1to7}
use Rattle.lists.proofs.Records.{length-flows, flow_is}
use Rattle.lists.proofs.Verdicts.{kept_exactly}
use Rattle.lists.proofs.RoundTrip.{length_list, listed, list_back}
use Rattle.tables.specs.Tables.{place as table_place}
use Rattle.law.specs.Check.{check}
use Rattle.placing.specs.Tolerance.{Tolerant}
use Rattle.planner.specs.Plan.{plan_tests}
use Rattle.bases.specs.Rounding.{rounded_flow, rounded_flows}
use Rattle.bases.specs.Becomes.{Largest, Becomes, EachBecomes}
use Rattle.bases.specs.Tests.{round_tests}
use Rattle.bases.proofs.Largest.{interval-reaches, next-above, rounded_is, less_than_twice}
use Rattle.bases.proofs.Becoming.{each_becomes, each_one, each_reaches}
use Rattle.bases.proofs.Passes.{passing, passes, new_list-passes, list_twice}
use Rattle.hub.specs.Statements.{RoundList}
use Rattle.hub.specs.Rounded.{Rounded}
use Rattle.hub.proofs.Demand1.{round_writes}
use Rattle.hub.proofs.Demand3.{planned_exactly, refused_none}

-- what the tests 1 to 5 say of 1 to 4
fields_pass : (l : List ℕ) → tests1to5 l ≡ Passed → tests1to4 l ≡ Passed
unfolding tests1to5
fields_pass l e = (both_passed (tests1to4 l) (test5 (flows_of l)) e).0

-- the flow at each place becomes the one there
each_at : (c : ℕ) (fs gs : List Flow) → EachBecomes c fs gs → (i : ℕ) → i < length fs → Becomes c (get_or fs i no_flow) (get_or gs i no_flow)
each_at c [] gs e i h = absurd (omega (arith, h))
each_at c (f ∷ fs) gs (g, rest, e, b, more) zero h = rw e b
each_at c (f ∷ fs) gs (g, rest, e, b, more) (suc i) h = rw e (each_at c fs rest more i (omega (arith, h)))

module _ (c : ℕ) (l room room' : List ℕ) (n : ℕ) (h : RoundList c l room (Ok n) room') where
  -- the list that is written
  abbrev new : List ℕ
  new = take n room'

  -- the tests pass, and the list of the rounded flows stands at the front of the room
  front : (round_tests c l ≡ Passed) × (new ≡ list_of (rounded_flows c (flows_of l)))
  front = rw h.bytes (written_front (round_tests c l) (list_of (rounded_flows c (flows_of l))) room n (sym h.result))

  -- its flows are the rounded ones
  flows : flows_of new ≡ rounded_flows c (flows_of l)
  flows = rw front.1 (new_list-passes c l front.0).1

  -- each interval is rounded, the size stays and the jitter is capped, and the list passes 1 to 5
  pub rounded_list : Rounded c l new
  rounded_list =
      let p = passing c l front.0 in
      record {
        becomes = rw flows (each_becomes c (flows_of l) p.base_from_1 p.reach);
        passes = rw front.1 (new_list-passes c l front.0).0;
      }

  -- no other list is so
  pub rounded_only : (l' : List ℕ) → ((i : ℕ) → get_or l' i 0 < 256) → Rounded c l l' → l' ≡ new
  rounded_only l' b r =
      let same : flows_of l' ≡ rounded_flows c (flows_of l) = each_one c (flows_of l) (flows_of l') (passing c l front.0).base_from_1 r.becomes in
      sym (list_back l' b (fields_pass l' r.passes)) ∙ ap list_of same ∙ sym front.1

  -- "Show that the rounded list is always related"
  pub always_related : test6 (flows_of new) ≡ Passed
  always_related = rw front.1 (new_list-passes c l front.0).2

  -- so of tests 1 to 7 only 7 can refuse it
  pub rounded_tested : tests1to7 new ≡ test7 (flows_of new)
  unfolding tests1to5 tests1to7
  rounded_tested =
      let p = both_passed (tests1to4 new) (test5 (flows_of new)) rounded_list.passes in
      rw (p.0, p.1, always_related)

  -- it has as many records
  pub rounded-count : count new ≡ count l
  unfolding rounded_flows
  rounded-count = sym (length-flows new) ∙ ap length flows ∙ length-map (flows_of l) (rounded_flow c) ∙ length-flows l

  -- the new interval of each is the base times a power of two and not above the old one, which is below the next and less than twice the
  -- new one
  pub rounded_each : (i : ℕ) → i < count l
      → let x = (flow_at l i).interval in
      let y = (flow_at new i).interval in
      (k : ℕ) × (y ≡ c * 2 ^ k) × (y ≤ x) × (x < c * 2 ^ suc k) × (x < 2 * y)
  rounded_each i m =
      let x = (flow_at l i).interval in
      let y = (flow_at new i).interval in
      let pos = (passing c l front.0).base_from_1 in
      let b = each_at c (flows_of l) (flows_of new) rounded_list.becomes i (omega (arith, m, length-flows l)) in
      let big : Largest c x y = rw (flow_is l i (flow_at l i) m refl, flow_is new i (flow_at new i) (omega (arith, m, rounded-count)) refl) b.new_interval in
      (big.power, big.times_power, big.not_above, next-above c x y pos big, rw (← rounded_is c x y pos big) (less_than_twice c x pos (interval-reaches c x y big)))

  -- rounded again to the same base, into any room that is long enough, it comes back
  pub rounded_again : (again : List ℕ) → n ≤ length again → (r : Written) (again' : List ℕ) → RoundList c new again r again'
      → (r ≡ Ok n) × (again' ≡ new ++ drop n again)
  rounded_again again fits r again' s =
      let twice : (round_tests c new ≡ Passed) × (list_of (rounded_flows c (flows_of new)) ≡ new) = rw front.1 (list_twice c l front.0) in
      let long : n ≡ length new = rw front.1 (round_writes c l room room' n h).0 in
      let w =
      ends-written (round_tests c new) (list_of (rounded_flows c (flows_of new))) again n (new ++ drop n again) twice.0 (rw (twice.1, ← long) fits) (rw twice.1 long) (rw (twice.1, ← long)) in
      (s.result ∙ sym w.0, s.bytes ∙ sym w.1)

  -- demand 3 of the rounded list: where 7 passes, there is room, and each flow tolerates its sum
  module _ (m : ℕ) (limited : test7 (flows_of new) ≡ Passed) (roomy : table_place (grants (flows_of new)) ≤ m) (tolerant : Tolerant (flows_of new)) where
    -- it is planned exactly when the load is at most the cycle
    pub rounded-planned : (plan_tests new m ≡ Passed) ↔ (load (flows_of new) ≤ cycle (flows_of new))
    rounded-planned = planned_exactly new m (rounded_tested ∙ limited) roomy tolerant

    -- and if refused no table of that cycle passes
    pub rounded-none : (r : Refusal) → plan_tests new m ≡ Refused r → (t : List ℕ) → check new t ≡ Passed → ⊥
    rounded-none = refused_none new m (rounded_tested ∙ limited) roomy tolerant

-- ---- nothing is refused of which such a list comes

-- a base for which lawful flows become any is 1 to 4,096: the new interval has a jitter below it, and the old one is at most 4,096
lawful_base : (c : ℕ) (fs gs : List Flow) → 1 ≤ length fs → All (λ f. keeps f ≡ true) fs → EachBecomes c fs gs → (1 ≤ c) × (c ≤ 4096)
lawful_base c [] gs some ruled e = absurd (omega (arith, some))
lawful_base zero (f ∷ fs) gs some ruled (g, rest, e, b, more) =
    let none : g.interval ≡ 0 = b.new_interval.times_power ∙ zero-mul (2 ^ b.new_interval.power) in
    absurd (omega (arith, none, b.jitter_capped))
lawful_base (suc a) (f ∷ fs) gs some ruled (g, rest, e, b, more) =
    (omega arith, omega (arith, interval-reaches (suc a) f.interval g.interval b.new_interval, (keeps_is f ruled.0).interval_le))

-- where a list passes 1 to 5 and some list comes of it for which there is room, the bytes of that list are answered; that the base is
-- neither 0 nor over 4,096 is not asked, since no list comes of it then
pub round_accepts : (c : ℕ) (l l' : List ℕ) → tests1to5 l ≡ Passed → Rounded c l l'
    → (room : List ℕ) → length l' ≤ length room → (q : Written) (room' : List ℕ) → RoundList c l room q room' → q ≡ Ok (length l')
round_accepts c l l' pass r room fits q room' h =
    let old = listed l (fields_pass l pass) in
    let made = listed l' (fields_pass l' r.passes) in
    let new = rounded_flows c (flows_of l) in
    let base = lawful_base c (flows_of l) (flows_of l') (rw (length-flows l) old.some) old.ruled r.becomes in
    let same : flows_of l' ≡ new = each_one c (flows_of l) (flows_of l') base.0 r.becomes in
    let all : round_tests c l ≡ Passed =
    passes c l
    record {
      old_passes = pass;
      base_from_1 = base.0;
      base_to_4096 = base.1;
      reach = each_reaches c (flows_of l) (flows_of l') r.becomes;
      ruled = rw (← same) ((kept_exactly (flows_of l')).1 made.ruled);
    } in
    let long : length (list_of new) ≡ length l' = length_list new ∙ ap place (ap length (sym same) ∙ length-flows l') ∙ sym made.exactly in
    h.result ∙ sym (ends-written (round_tests c l) (list_of new) room (length l') _ all (omega (arith, fits, long)) (sym long) refl).0
