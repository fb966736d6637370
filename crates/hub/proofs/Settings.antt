-- MODEM SETTINGS. Document 02, L2: "Read them in the published specification's type, length, value form and turn them into our list,
-- for a given slot length (whole microseconds) and bytes in a slot. Size rounds up, jitter rounds down, an interval must be a whole
-- number of slots, and several grants per interval become as many flows." Here of all that the statement allows. Assumes nothing.
use mathlib.Core.Path.{◌≡◌, sym, ap, ◌∙◌}
use mathlib.Core.Bool.{true}
use mathlib.Core.List.{List, [], ◌∷◌, map}
use Prim.Native.Nat.{ℕ, ◌%◌, ◌≤◌, ◌<◌}
use lib.ListN.{length, get_or, take}
use borrow.Author.Tests.{lt-ltb, le-ltb, eq-eqb}
use Rattle.logic.specs.Lists.{All}
use Rattle.refusals.specs.declared.Refusal.TheVariants.{NotWhole}
use Rattle.std.proofs.Common.{Ok}
use Rattle.refusals.specs.Results.{Passed, Written}
use Rattle.refusals.specs.Tests.{◌⟫◌}
use Rattle.refusals.specs.Answers.{answer}
use Rattle.refusals.proofs.Chains.{both_passed, passed_both}
use Rattle.refusals.proofs.Rooms.{written_front}
use Rattle.lists.specs.Lists.{count, place, flows_of, list_of}
use Rattle.lists.specs.Tests.{test1, test2, test3, test1exact, test4, test5, test6, tests1to4}
use Rattle.lists.proofs.Records.{length-flows}
use Rattle.lists.proofs.RoundTrip.{length_list, listed, list_back}
use Rattle.settings.specs.Runs.{Item, items}
use Rattle.settings.specs.Form.{Amounts, RunOf}
use Rattle.settings.specs.Slots.{Channel, channel, whole_slots, flows_asked}
use Rattle.settings.specs.Tests.{test26, test25, settings_tests}
use Rattle.settings.proofs.Form.{amounts, each_encoding, run_taken, taken_run, run-amounts}
use Rattle.settings.proofs.Units.{channel_pos, fulfilled, numbered, fulfilled_one}
use Rattle.settings.proofs.Passes.{passing, list_passes_1_to_6}
use Rattle.hub.specs.Statements.{ListFromSettings}
use Rattle.hub.specs.Converted.{Converted}

module _ (microseconds bytes : ℕ) (s room room' : List ℕ) (n : ℕ) (h : ListFromSettings microseconds bytes s room (Ok n) room') where
  abbrev ch : Channel
  ch = channel microseconds bytes

  -- the tests pass, and the list of the flows asked for stands at the front of the room
  front : (settings_tests ch s ≡ Passed) × (take n room' ≡ list_of (flows_asked ch s))
  front = rw h.bytes (written_front (settings_tests ch s) (list_of (flows_asked ch s)) room n (sym h.result))

  -- where bytes are answered, the settings are a run of upstream service flow encodings, each with each of the four exactly once
  pub settings_run : (asked : List Amounts) × RunOf asked s
  settings_run = let p = passing ch s front.0 in taken_run s p.sound p.complete

  module _ (asked : List Amounts) (r : RunOf asked s) where
    -- the list of what they ask for stands at the front of the room
    pub settings_list : Converted ch asked (take n room')
    settings_list =
        let p = passing ch s front.0 in
        let q = list_passes_1_to_6 ch s front.0 in
        rw front.1
        record {
          passes = q.0;
          new_numbers = q.2;
          related_intervals = q.3;
          fulfils = rw q.1 (fulfilled ch asked s p.channel_there r p.whole);
          numbered = rw q.1 (numbered ch s);
        }

    -- and is the only one
    pub settings_list_only : (l : List ℕ) → ((i : ℕ) → get_or l i 0 < 256) → Converted ch asked l → l ≡ take n room'
    settings_list_only l b c =
        let p = passing ch s front.0 in
        let same : flows_of l ≡ flows_asked ch s = fulfilled_one ch (channel_pos ch p.channel_there).0 asked 1 _ _ c.fulfils (fulfilled ch asked s p.channel_there r p.whole) c.numbered (numbered ch s) in
        sym (list_back l b c.passes) ∙ ap list_of same ∙ sym front.1

-- ---- no settings are refused that some list answers

-- intervals that are whole pass 25
whole_passed : (ch : Channel) (is : List Item) → All (λ a. a.interval % ch.microseconds ≡ 0) (map amounts is) → All (λ i. whole_slots ch i ≡ true) is
unfolding whole_slots
whole_passed ch [] h = tt
whole_passed ch (i ∷ is) h = (eq-eqb _ 0 h.0, whole_passed ch is h.1)

-- the tests of a list's count and fields, of the tests 1 to 4
count-and_fields : (l : List ℕ) → tests1to4 l ≡ Passed → (test3 (count l) ≡ Passed) × (test4 (flows_of l) ≡ Passed)
unfolding tests1to4
count-and_fields l e =
    let a = both_passed (test1 l) _ e in
    let b = both_passed (test2 l) _ a.1 in
    let c = both_passed (test3 (count l)) _ b.1 in
    let d = both_passed (test1exact l) _ c.1 in
    (c.0, d.1)

-- where the channel has both values, each interval that a run asks for is whole, and some list comes of it for which there is room,
-- the bytes of that list are answered
pub settings_answered : (microseconds bytes : ℕ) → 0 < microseconds → 0 < bytes
    → (asked : List Amounts) (s : List ℕ) → RunOf asked s → All (λ a. a.interval % microseconds ≡ 0) asked
    → (l : List ℕ) → Converted (channel microseconds bytes) asked l
    → (room : List ℕ) → length l ≤ length room → (q : Written) (room' : List ℕ) → ListFromSettings microseconds bytes s room q room' → q ≡ Ok (length l)
unfolding settings_tests test26 test25 answer
settings_answered microseconds bytes m b asked s r w l c room fits q room' h =
    let ch = channel microseconds bytes in
    let fs = flows_asked ch s in
    let e26 : test26 ch ≡ Passed = rw (lt-ltb 0 microseconds m, lt-ltb 0 bytes b) in
    let e25 : test25 ch s ≡ Passed = (each_encoding (whole_slots ch) NotWhole s).1 (whole_passed ch (items s) (rw (run-amounts asked s r) at w)) in
    let taken = run_taken asked s r in
    let same : flows_of l ≡ fs = fulfilled_one ch m asked 1 _ _ c.fulfils (fulfilled ch asked s e26 r e25) c.numbered (numbered ch s) in
    let counted : count l ≡ length fs = sym (length-flows l) ∙ ap length same in
    let k = count-and_fields l c.passes in
    let e5to6 : (test5 fs ⟫ test6 fs) ≡ Passed = passed_both _ _ (rw same at c.new_numbers) (rw same at c.related_intervals) in
    let e3to6 : (test3 (length fs) ⟫ test4 fs ⟫ test5 fs ⟫ test6 fs) ≡ Passed = passed_both _ _ (rw counted at k.0) (passed_both _ _ (rw same at k.1) e5to6) in
    let all : settings_tests ch s ≡ Passed = passed_both _ _ e26 (passed_both _ _ taken.0 (passed_both _ _ taken.1 (passed_both _ _ e25 e3to6))) in
    let long : length (list_of fs) ≡ length l = length_list fs ∙ ap place (sym counted) ∙ sym (listed l c.passes).exactly in
    h.result ∙ rw (all, long, le-ltb (length room) (length l) fits)
