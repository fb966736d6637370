-- One look through the encodings of a run: how many flows there are, and tests 23, 24, 25 and 4 so far. Assumes nothing.
use Rattle.std.proofs.Common.{◌≡◌, Bool, true, List, [], ◌++◌, map, ℕ, suc, ◌+◌, ◌*◌, ◌≤◌, ◌<◌, length, Result, Ok, Err, refl, sym, ap, ◌∙◌, arith, length-append}
use Rattle.std.proofs.lemmas.List.{nil_from_length, length-map, map-append}
use Rattle.std.proofs.lemmas.List.Edits.{sets}
use Rattle.logic.proofs.Tests.{by_lt}
use Rattle.logic.proofs.Rooms.{sets_append}
use Rattle.flows.specs.declared.flow.Flow.{Flow}
use Rattle.flows.specs.Flows.{keeps}
use Rattle.refusals.specs.declared.Refusal.{Refusal}
use Rattle.refusals.specs.declared.Refusal.TheVariants.{Count, Field, Encoding, MissingSetting, NotWhole}
use Rattle.refusals.specs.Results.{Checked, Passed, Refused}
use Rattle.refusals.specs.Tests.{◌⟫◌, unless, lowest}
use Rattle.refusals.proofs.Chains.{refused-not, both_passed, chain_assoc, chain_passed, unless_passed}
use Rattle.refusals.proofs.Lowest.{lowest-next, lowest-here, lowest_both, lowest-noted}
use Rattle.lists.specs.Lists.{place, records}
use Rattle.lists.specs.Tests.{test3, test4}
use Rattle.lists.proofs.RoundTrip.{length-records}
use Rattle.lists.proofs.Verdicts.{not-few, few_passed}
use Rattle.lists.proofs.Writing.{records-none, records_both}
use Rattle.settings.specs.declared.Call.{Call}
use Rattle.settings.specs.Runs.{Item, items}
use Rattle.settings.specs.Encodings.{all_four, present, sound, complete}
use Rattle.settings.specs.Slots.{Channel, amount, whole_slots, flows_for, flows_from, flows_asked}
use Rattle.settings.specs.Tests.{test23, test24, test25}
use Rattle.settings.proofs.Runs.{items-none}
use Rattle.settings.proofs.Units.{length_for}
use Rattle.converting.specs.Parts.{is_whole, Taken, CallWritten, Sound, Unsound, read_tests, counted, survey_of, Recorded}

-- the flows of the encodings of a rest of the run, where n flows are before them
abbrev pub left : Channel → List ℕ → ℕ → List Flow
left ch rest n = flows_from ch (suc n) (items rest)

-- the look stands before encoding k, at a rest of the run: the encodings before it are sound and have n flows, or too many;
-- `missing`, `uneven` and `rules` are what tests 24, 25 and 4 say of them
pub record LookAt (ch : Channel) (s rest : List ℕ) (k n : ℕ) (missing uneven rules : Checked) : Type 0 where
  pub few : k + length rest ≤ length s + 1
  pub most : n ≤ 129
  pub flows_left : n ≤ 128 → n + length (left ch rest n) ≡ length (flows_asked ch s)
  pub too_many : 128 < n → 128 < length (flows_asked ch s)
  pub sound_left : test23 s ≡ lowest Encoding k (map sound (items rest))
  pub missing_left : test24 s ≡ (missing ⟫ lowest MissingSetting k (map complete (items rest)))
  pub uneven_left : test25 ch s ≡ (uneven ⟫ lowest NotWhole k (map (whole_slots ch) (items rest)))
  pub rules_left : length (flows_asked ch s) ≤ 128 → test4 (flows_asked ch s) ≡ (rules ⟫ lowest Field (suc n) (map keeps (left ch rest n)))

pub look_start : (ch : Channel) (s : List ℕ) → LookAt ch s s 1 0 Passed Passed Passed
unfolding flows_asked test23 test24 test25 test4
look_start ch s =
    record {
      few = omega arith;
      most = omega arith;
      flows_left = λ h. omega arith;
      too_many = λ h. absurd (omega (arith, h));
      sound_left = refl;
      missing_left = refl;
      uneven_left = refl;
      rules_left = λ h. refl;
    }

-- ---- the records

-- what is known of a run that passes
pub passing : (ch : Channel) (s : List ℕ) → read_tests ch s ≡ Passed
    → (1 ≤ length (flows_asked ch s)) × (length (flows_asked ch s) ≤ 128) × (test4 (flows_asked ch s) ≡ Passed)
unfolding read_tests
passing ch s p =
    let a = both_passed (test23 s) _ p in
    let b = both_passed (test24 s) _ a.1 in
    let c = both_passed (test25 ch s) _ b.1 in
    let d = both_passed (test3 (length (flows_asked ch s))) _ c.1 in
    let n = few_passed (length (flows_asked ch s)) d.0 in
    (n.0, n.1, d.1)

-- n records are written in `list`, which was `before`, and the flows of the rest of the run are left
pub record PackAt (ch : Channel) (s before rest : List ℕ) (n : ℕ) (list : List ℕ) : Type 0 where
  pub room_left : place n + length (records (left ch rest n)) ≤ length list
  pub writes : sets list (place n) (records (left ch rest n)) ≡ sets before 4 (records (flows_asked ch s))

pub pack_start : (ch : Channel) (s list : List ℕ) → read_tests ch s ≡ Passed → 772 ≤ length list → PackAt ch s list s 0 list
unfolding flows_asked
pack_start ch s list p h = record { room_left = omega (arith, length-records (flows_asked ch s), (passing ch s p).1, h); writes = refl }

-- ---- an encoding, and the end

-- the tests behind a refusal don't matter
stops : (a b : Checked) (r : Refusal) (c d : Checked) (n m : ℕ) → counted (a ⟫ b ⟫ Refused r ⟫ c) n ≡ counted (a ⟫ b ⟫ Refused r ⟫ d) m
stops (Err x) b r c d n m = refl
stops (Ok _) (Err x) r c d n m = refl
stops (Ok _) (Ok _) r c d n m = refl

module _ (ch : Channel) (s rest : List ℕ) (k n : ℕ) (missing uneven rules : Checked) (look : LookAt ch s rest k n missing uneven rules) where
  -- an encoding at fault answers first, and no record is asked for
  pub look_bad : Unsound rest → (before after : List ℕ) → (Err (Encoding k) ≡ survey_of ch s) × Recorded ch s before after
  unfolding survey_of read_tests
  look_bad u before after =
      let fault : test23 s ≡ Refused (Encoding k) = look.sound_left ∙ rw u.stands (lowest-here Encoding k (sound u.item) (map sound u.rest) u.unsound) in
      (rw fault, λ p. refused-not (Encoding k) (rw fault at p))

  -- a sound encoding stands there, and asks for c
  module _ (c : Call) (behind : List ℕ) (r : Sound rest c behind) where
    -- one test more of an encoding
    noted : (refusal : ℕ → Refusal) (ok : Item → Bool) (passes : Bool) (before after : Checked) → passes ≡ ok r.item
        → after ≡ (before ⟫ unless passes (refusal k))
        → (before ⟫ lowest refusal k (map ok (items rest))) ≡ (after ⟫ lowest refusal (k + 1) (map ok (items behind)))
    noted refusal ok passes before after e a =
        rw (a, e, r.stands) (lowest-noted refusal k (ok r.item) (map ok (items behind)) before)

    -- the flows of the encoding, and of those behind it
    opened : left ch rest n ≡ flows_for ch (suc n) c (amount c.grants) ++ flows_from ch (suc n + amount c.grants) (items behind)
    unfolding flows_from
    opened = rw (r.stands, r.asks)

    -- m of its flows are taken, all of them where there are not too many
    module _ (m : ℕ) (some : Taken n (amount c.grants) m) where
      abbrev own : List Flow
      own = flows_for ch (suc n) c m

      all_taken : n + m ≤ 128 → left ch rest n ≡ own ++ left ch behind (n + m)
      all_taken h =
          let further : suc (n + m) ≡ suc n + m = omega arith in
          rw (further, some.all h) opened

      -- there are no more
      count : n ≤ 128 → n + amount c.grants ≤ length (flows_asked ch s)
      count h = omega (arith, look.flows_left h, simp (length-append, length_for) at (ap length opened))

      -- where the flows are not too many, none of these is
      taken_all : length (flows_asked ch s) ≤ 128 → n + m ≤ 128
      taken_all h =
          by_lt 128 n (λ l. absurd (omega (arith, look.too_many l, h)))
          (λ l. omega (arith, count l, some.no_more, h))

      module _ (list : List ℕ) (kept : Bool) (new : List ℕ) (w : CallWritten ch c n m list kept new) where
        -- test 4 of the flows that are left: first of these
        rules_next : length (flows_asked ch s) ≤ 128
            → lowest Field (suc n) (map keeps (left ch rest n)) ≡ (unless kept (Field (suc n)) ⟫ lowest Field (suc (n + m)) (map keeps (left ch behind (n + m))))
        rules_next h =
            let few = taken_all h in
            let size : suc n + length (map keeps own) ≡ suc (n + m) = simp (length-map, length_for) (omega arith) in
            rw (all_taken few, map-append keeps own (left ch behind (n + m)), lowest_both Field (suc n) (map keeps own) _, w.tested few, size)

        pub look_next : (miss unev rule : Checked) (there even : Bool) → there ≡ all_four present c → even ≡ is_whole ch.microseconds c
            → miss ≡ (missing ⟫ unless there (MissingSetting k)) → unev ≡ (uneven ⟫ unless even (NotWhole k))
            → rule ≡ (rules ⟫ unless kept (Field (n + 1))) → LookAt ch s behind (k + 1) (n + m) miss unev rule
        unfolding complete whole_slots
        look_next miss unev rule there even et ee em eu er =
            record {
              few = omega (arith, r.shorter, look.few);
              most = some.inside;
              flows_left = λ h. omega (arith, look.flows_left (omega (arith, h)), simp (length-append, length_for) at (ap length (all_taken h)));
              too_many = λ h. by_lt 128 n look.too_many (λ l. omega (arith, count l, some.no_more, h));
              sound_left =
                  look.sound_left ∙ rw r.stands (lowest-next Encoding k (sound r.item) (map sound (items behind)) r.sound);
              missing_left = look.missing_left ∙ noted MissingSetting complete there missing miss (et ∙ ap (all_four present) r.asks) em;
              uneven_left = look.uneven_left ∙ noted NotWhole (whole_slots ch) even uneven unev (ee ∙ ap (is_whole ch.microseconds) r.asks) eu;
              rules_left = λ h.
                  let one : n + 1 ≡ suc n = omega arith in
                  look.rules_left h
                  ∙ rw (rules_next h, er, one) (sym (chain_assoc rules (unless kept (Field (suc n))) _));
            }

        -- where the run passes, these records are written
        pub pack_next : read_tests ch s ≡ Passed → (before : List ℕ) → PackAt ch s before rest n list → PackAt ch s before behind (n + m) new
        pack_next p before pack =
            let is = passing ch s p in
            let few = taken_all is.1 in
            let others = left ch behind (n + m) in
            let ruled = both_passed rules _ (sym (look.rules_left is.1) ∙ is.2) in
            let good : kept ≡ true = unless_passed kept (Field (suc n)) (both_passed _ _ (sym (rules_next is.1) ∙ ruled.1)).0 in
            let next : records (left ch rest n) ≡ records own ++ records others = ap records (all_taken few) ∙ records_both own others in
            let size : length (records own) ≡ 6 * m = simp (length-records, length_for) in
            let all : length (records (left ch rest n)) ≡ 6 * m + length (records others) = rw (next, length-append, size) in
            let put : new ≡ sets list (place n) (records own) = w.written good (omega (arith, pack.room_left, all)) in
            let behind : place (n + m) ≡ place n + length (records own) = omega (arith, size) in
            record {
              room_left = omega (arith, pack.room_left, all, w.same);
              writes = rw (put, behind) (sym (sets_append list (place n) (records own) (records others)) ∙ rw (← next) pack.writes);
            }

  -- at the run's end
  module _ (h : length rest ≡ 0) where
    none : items rest ≡ []
    none = rw (nil_from_length rest h, items-none)

    no_flows : left ch rest n ≡ []
    unfolding flows_from
    no_flows = rw none

    pub look_end : (r : Result ℕ Refusal) → r ≡ counted (missing ⟫ uneven ⟫ test3 n ⟫ rules) n → r ≡ survey_of ch s
    unfolding survey_of read_tests lowest
    look_end r is =
        let fs = flows_asked ch s in
        let t23 : test23 s ≡ Passed = look.sound_left ∙ rw none in
        let t24 : test24 s ≡ missing = look.missing_left ∙ rw none (chain_passed missing) in
        let t25 : test25 ch s ≡ uneven = look.uneven_left ∙ rw none (chain_passed uneven) in
        by_lt 128 (length fs)
        (λ over.
        by_lt 128 n
        (λ l. rw (t23, t24, t25, not-few (length fs) (λ q. omega (arith, over, q.1))) (rw (not-few n (λ q. omega (arith, l, q.1))) at is ∙ stops missing uneven Count rules (test4 fs) n (length fs)))
        (λ l. absurd (omega (arith, look.flows_left l, ap length no_flows, over, l))))
        (λ few.
        let most : n ≤ 128 = by_lt 128 n (λ l. absurd (omega (arith, look.too_many l, few))) (λ l. l) in
        let same : length fs ≡ n = omega (arith, look.flows_left most, ap length no_flows) in
        let t4 : test4 fs ≡ rules = look.rules_left few ∙ rw no_flows (chain_passed rules) in
        rw (t23, t24, t25, same, t4) is)

    pub pack_end : (before list : List ℕ) → PackAt ch s before rest n list → list ≡ sets before 4 (records (flows_asked ch s))
    pack_end before list pack = ap (sets list (place n)) (sym (ap records no_flows ∙ records-none)) ∙ pack.writes
