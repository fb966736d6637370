-- The tests of a run in their order, what looking through it finds, and the list that it makes. Assumes nothing.
use Rattle.std.proofs.Common.{◌≡◌, List, ◌++◌, append_assoc, ℕ, ◌+◌, ◌*◌, ◌≤◌, length, take, drop, length-take, Ok, Err, refl, sym, ap, ◌∙◌, arith}
use Rattle.std.proofs.lemmas.List.{take_at, drop_at}
use Rattle.std.proofs.lemmas.List.Edits.{sets}
use Rattle.std.proofs.Math.Seq.{length-sets}
use Rattle.logic.proofs.Rooms.{sets_front, sets_between}
use Rattle.fields.specs.declared.kind.Kind.TheVariants.{ListHead}
use Rattle.fields.specs.Records.{room_after}
use Rattle.refusals.specs.declared.Refusal.{Refusal}
use Rattle.refusals.specs.Results.{Checked, Passed, Refused}
use Rattle.refusals.specs.Tests.{◌⟫◌}
use Rattle.refusals.proofs.Chains.{chain_assoc}
use Rattle.lists.specs.Lists.{head_fields, head, place, records, flows_of, list_of}
use Rattle.lists.specs.Tests.{new_number, test5, related_interval, test6}
use Rattle.lists.proofs.RoundTrip.{length-records, length-head, length_list, flows_back}
use Rattle.lists.proofs.Verdicts.{kept_exactly}
use Rattle.lists.proofs.Writing.{head-written}
use Rattle.pairing.specs.Parts.{pair_tests}
use Rattle.settings.specs.Slots.{Channel, flows_asked}
use Rattle.settings.specs.Tests.{test26, settings_tests}
use Rattle.converting.specs.Parts.{read_tests, counted, survey_of, Recorded}
use Rattle.converting.proofs.Looking.{passing}

module _ (ch : Channel) (s : List ℕ) where
  -- a channel value of zero answers first
  pub channel_refused : (r : Refusal) → test26 ch ≡ Refused r → settings_tests ch s ≡ Refused r
  unfolding settings_tests
  channel_refused r e = rw e

  -- then the tests of the look, and behind them 5 and 6
  pub tests_are : test26 ch ≡ Passed → settings_tests ch s ≡ (read_tests ch s ⟫ pair_tests (flows_asked ch s))
  unfolding settings_tests read_tests test5 new_number test6 related_interval
  tests_are e = rw e (simp chain_assoc)

  -- ---- what is found

  refused_by : (c : Checked) (n : ℕ) (r : Refusal) → Err r ≡ counted c n → c ≡ Refused r
  refused_by (Err x) n r e = cc
  refused_by (Ok tt) n r e = let z : ◌≡◌ {A = ℕ} 0 1 = cc in absurd (omega arith)

  flows_by : (c : Checked) (n k : ℕ) → Ok k ≡ counted c n → (c ≡ Passed) × (k ≡ n)
  flows_by (Ok tt) n k e = (refl, cc)
  flows_by (Err x) n k e = let z : ◌≡◌ {A = ℕ} 0 1 = cc in absurd (omega arith)

  pub survey_refused : test26 ch ≡ Passed → (r : Refusal) → Err r ≡ survey_of ch s → settings_tests ch s ≡ Refused r
  unfolding survey_of
  survey_refused t r e = tests_are t ∙ rw (refused_by (read_tests ch s) (length (flows_asked ch s)) r e)

  pub survey_flows : (n : ℕ) → Ok n ≡ survey_of ch s → (read_tests ch s ≡ Passed) × (n ≡ length (flows_asked ch s)) × (n ≤ 128)
  unfolding survey_of
  survey_flows n e =
      let f = flows_by (read_tests ch s) (length (flows_asked ch s)) n e in
      (f.0, f.1, omega (arith, f.1, (passing ch s f.0).1))

  -- ---- the list of a run that passes

  module _ (n : ℕ) (found : Ok n ≡ survey_of ch s) where
    -- its bytes, as the calls give them
    list_packed : (before waits list : List ℕ) → 772 ≤ length before → Recorded ch s before waits → list ≡ room_after ListHead (head_fields n) waits
        → take (place n) list ≡ list_of (flows_asked ch s)
    unfolding list_of
    list_packed before waits list long recorded el =
        let is = survey_flows n found in
        let fs = flows_asked ch s in
        let rs : List ℕ = records fs in
        let rest : List ℕ = drop (4 + length rs) before in
        let size : length rs ≡ 6 * length fs = length-records fs in
        let ew : waits ≡ sets before 4 rs = recorded is.0 in
        let front : length (take 4 before) ≡ 4 = omega (arith, length-take 4 before, long) in
        let room : length waits ≡ length before = ap length ew ∙ length-sets before 4 rs in
        let behind : drop 4 waits ≡ rs ++ rest =
        ap (drop 4) (ew ∙ sym (sets_between rs before 4 (length rs) refl (omega (arith, size, is.1, is.2, long)))) ∙ drop_at (take 4 before) (rs ++ rest) 4 front in
        let first : list ≡ head n ++ drop (length (head n)) waits =
        el ∙ head-written n waits (omega (arith, is.2)) (omega (arith, room, long)) ∙ sets_front (head n) waits (omega (arith, length-head n, room, long)) in
        let all : list ≡ list_of fs ++ rest =
        first ∙ rw (is.1, length-head (length fs), behind) (sym (append_assoc (head (length fs)) rs rest)) in
        ap (take (place n)) all ∙ take_at (list_of fs) rest (place n) (length_list fs ∙ ap place (sym is.1))

    -- and tests 5 and 6 read the flows back from it
    pub list_made : test26 ch ≡ Passed → (before waits list : List ℕ) → 772 ≤ length before → Recorded ch s before waits → list ≡ room_after ListHead (head_fields n) waits
        → (take (place n) list ≡ list_of (flows_asked ch s)) × (pair_tests (flows_of (take (place n) list)) ≡ settings_tests ch s)
    list_made t before waits list long recorded el =
        let all = list_packed before waits list long recorded el in
        let p = (survey_flows n found).0 in
        let is = passing ch s p in
        let back : flows_of (list_of (flows_asked ch s)) ≡ flows_asked ch s = flows_back (flows_asked ch s) is.0 is.1 ((kept_exactly (flows_asked ch s)).0 is.2) in
        (all, rw (all, back, tests_are t, p))
