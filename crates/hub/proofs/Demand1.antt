-- DEMAND 1. "For every sheet, list, table and buffer the call ends with an answer; no caller has to check first; each refusal gives
-- document 01's number and place and alters no lent byte." That the calls end and ask nothing is what the proved contracts say;
-- here: every refusal is given exactly when its test is the first to find fault, a refusal alters no byte, and any two results that
-- an operation's statement allows are equal. Assumes nothing.
use mathlib.Core.Path.{◌≡◌, refl, sym, ap, ap₂, ◌∙◌}
use mathlib.Core.Logic.{◌⊎◌, ⊎_elim, ◌↔◌}
use mathlib.Core.List.{List, [], ◌∷◌, ◌++◌, map}
use Prim.Native.Nat.{ℕ, ◌≤◌, ◌<◌}
use native.Mathlib.Omega.{arith}
use lib.Dec.{leb}
use lib.ListN.{length, drop}
use denote.Ref.{Bor}
use borrow.Author.Tests.{lt-ltb, le-ltb, lt-leb, le-leb, leb-true}
use Rattle.logic.proofs.Tests.{by_lt, and_both}
use Rattle.flows.specs.declared.flow.Flow.{Flow}
use Rattle.flows.specs.Flows.{new_flow}
use Rattle.refusals.specs.declared.Refusal.{Refusal}
use Rattle.std.proofs.Common.{Ok, Err}
use Rattle.refusals.specs.Results.{Checked, Passed, Refused, Written}
use Rattle.refusals.specs.declared.Refusal.TheVariants.{Room, Encoding, MissingSetting, NotWhole, BelowBase}
use Rattle.refusals.specs.Tests.{◌⟫◌}
use Rattle.refusals.specs.Answers.{answer, written}
use Rattle.refusals.specs.First.{in_order, FirstFault, LowestPlace}
use Rattle.refusals.proofs.Chains.{chain_assoc, unless_passed}
use Rattle.refusals.proofs.Exactly.{first_fault, lowest-place}
use Rattle.lists.specs.Lists.{flows_of, list_of}
use Rattle.lists.specs.Facts.{grants}
use Rattle.lists.specs.Tests.{test3, test4, test5, test6, test7, tests1to4, tests1to5, tests1to7}
use Rattle.sheets.specs.Texts.{text}
use Rattle.sheets.specs.Readings.{flows_in}
use Rattle.sheets.specs.Tests.{test20, sheet_tests}
use Rattle.sheets.specs.Answers.{list_answer, sheet_answer}
use Rattle.tables.specs.Tables.{place, grants_of}
use Rattle.tables.specs.Form.{test11, test12, form_tests}
use Rattle.windows.specs.Window.{test19, window_tests}
use Rattle.law.specs.Check.{test18, tests14to18, law_tests, check}
use Rattle.planner.specs.Plan.{test8, test9, test10, plan_tests, plan_table, plan_answer}
use Rattle.offsets.specs.Adding.{with_new, test9 as both_rooms, test22, new_tests, list_bytes, table_bytes, add_tests, offset_found, new_list, new_table, table_added, add_answer, room_of_list as new_list_room, room_of_table as new_table_room}
use Rattle.settings.specs.Runs.{items}
use Rattle.settings.specs.Encodings.{sound, complete}
use Rattle.settings.specs.Slots.{Channel, channel, whole_slots, flows_asked}
use Rattle.settings.specs.Tests.{test26, test23, test24, test25, settings_tests, settings_answer}
use Rattle.bases.specs.Rounding.{rounded_flows}
use Rattle.bases.specs.Tests.{test27, reaches, test28, round_tests, round_answer}
use Rattle.hub.specs.Chains.{chain1to4, chain1to5, chain1to7, plan_chain, form_chain, law_chain, check_chain, window_chain, room_test, sheet_chain, list_chain, new_chain, add_chain, settings_chain, round_chain}
use Rattle.hub.specs.Statements.{Writes, Check, Window, LiveAdd, ListFromSettings, RoundList}
use Rattle.windows.proofs.Contents.{one_stretch}
use Rattle.planner.proofs.Passes.{plan-answers}
use Rattle.offsets.proofs.Joining.{length-new_list, length-new_table}
use Rattle.offsets.proofs.Adding.{each_passed, answered}

-- ---- the chains are the operations' tests

one_last : (a : Checked) → (a ⟫ Passed) ≡ a
one_last (Ok tt) = refl
one_last (Err r) = refl

-- tests behind others
in_order-append : (xs ys : List Checked) → in_order (xs ++ ys) ≡ (in_order xs ⟫ in_order ys)
unfolding in_order
in_order-append [] ys = refl
in_order-append (x ∷ xs) ys = ap (λ (c : Checked). x ⟫ c) (in_order-append xs ys) ∙ sym (chain_assoc x (in_order xs) (in_order ys))

-- a chain by its last test
last_one : (a : Checked) → in_order (a ∷ []) ≡ a
unfolding in_order
last_one a = one_last a

last-two : (a b : Checked) → in_order (a ∷ b ∷ []) ≡ (a ⟫ b)
unfolding in_order
last-two a b = ap (λ (c : Checked). a ⟫ c) (one_last b)

last_three : (a b c : Checked) → in_order (a ∷ b ∷ c ∷ []) ≡ (a ⟫ b ⟫ c)
unfolding in_order
last_three a b c = ap (λ (x : Checked). a ⟫ x) (last-two b c)

pub tests_1_to_4 : (l : List ℕ) → in_order (chain1to4 l) ≡ tests1to4 l
unfolding in_order tests1to4
tests_1_to_4 l = rw (one_last (test4 (flows_of l)))

pub tests_1_to_5 : (l : List ℕ) → in_order (chain1to5 l) ≡ tests1to5 l
unfolding tests1to5
tests_1_to_5 l = in_order-append (chain1to4 l) _ ∙ ap₂ ◌⟫◌ (tests_1_to_4 l) (last_one (test5 (flows_of l)))

pub tests_1_to_7 : (l : List ℕ) → in_order (chain1to7 l) ≡ tests1to7 l
unfolding tests1to7
tests_1_to_7 l = in_order-append (chain1to4 l) _ ∙ ap₂ ◌⟫◌ (tests_1_to_4 l) (last_three (test5 (flows_of l)) (test6 (flows_of l)) (test7 (flows_of l)))

pub plan_tests_lem : (l : List ℕ) (n : ℕ) → in_order (plan_chain l n) ≡ plan_tests l n
unfolding plan_tests
plan_tests_lem l n = in_order-append (chain1to7 l) _ ∙ ap₂ ◌⟫◌ (tests_1_to_7 l) (last_three (test8 (flows_of l)) (test9 (flows_of l) n) (test10 (flows_of l)))

form_tests_lem : (t : List ℕ) → in_order (form_chain t) ≡ form_tests t
unfolding form_tests
form_tests_lem t = last-two (test11 t) (test12 (grants_of t))

law_tests_lem : (l t : List ℕ) → in_order (law_chain l t) ≡ law_tests (flows_of l) t
unfolding law_tests tests14to18 in_order
law_tests_lem l t = rw (one_last (test18 (flows_of l) (grants_of t)))

pub check_tests : (l t : List ℕ) → in_order (check_chain l t) ≡ check l t
unfolding check
check_tests l t =
    in_order-append (chain1to7 l) _
    ∙ ap₂ ◌⟫◌ (tests_1_to_7 l) (in_order-append (form_chain t) (law_chain l t) ∙ ap₂ ◌⟫◌ (form_tests_lem t) (law_tests_lem l t))

pub window_tests_lem : (t : List ℕ) (a b : ℕ) → in_order (window_chain t a b) ≡ window_tests t a b
unfolding window_tests in_order
window_tests_lem t a b = in_order-append (form_chain t) (test19 t a b ∷ []) ∙ ap₂ ◌⟫◌ (form_tests_lem t) (one_last (test19 t a b))

new_tests_lem : (fs : List Flow) (f : Flow) → in_order (new_chain fs f) ≡ new_tests fs f
unfolding new_tests in_order
new_tests_lem fs f = rw (one_last (test7 (with_new fs f)))

pub add_tests_lem : (l t : List ℕ) (f : Flow) (n m : ℕ) → in_order (add_chain l t f n m) ≡ add_tests l t f n m
unfolding add_tests
add_tests_lem l t f n m =
    let fs = flows_of l in
    let gs = grants_of t in
    in_order-append (check_chain l t) _
    ∙ ap₂ ◌⟫◌ (check_tests l t)
    (in_order-append (new_chain fs f) _ ∙ ap₂ ◌⟫◌ (new_tests_lem fs f) (last-two (both_rooms fs gs f n m) (test22 fs gs f)))

-- a chain of modem settings is their tests and then the room's
pub settings_tests_lem : (ch : Channel) (s : List ℕ) (n : ℕ) → in_order (settings_chain ch s n) ≡ (settings_tests ch s ⟫ room_test (list_of (flows_asked ch s)) n)
unfolding settings_tests in_order
settings_tests_lem ch s n =
    let fs = flows_asked ch s in
    in_order-append (test26 ch ∷ test23 s ∷ test24 s ∷ test25 ch s ∷ test3 (length fs) ∷ test4 fs ∷ test5 fs ∷ test6 fs ∷ []) (room_test (list_of fs) n ∷ [])
    ∙ rw (one_last (test6 fs), one_last (room_test (list_of fs) n))

-- a chain of rounding is its tests and then the room's
pub round_tests_lem : (c : ℕ) (l : List ℕ) (n : ℕ) → in_order (round_chain c l n) ≡ (round_tests c l ⟫ room_test (list_of (rounded_flows c (flows_of l))) n)
unfolding round_tests
round_tests_lem c l n =
    let new = rounded_flows c (flows_of l) in
    in_order-append (chain1to5 l) _
    ∙ ap₂ ◌⟫◌ (tests_1_to_5 l)
    (in_order-append (test27 c ∷ test28 c (flows_of l) ∷ test4 new ∷ []) (room_test (list_of new) n ∷ [])
    ∙ ap₂ ◌⟫◌ (last_three (test27 c) (test28 c (flows_of l)) (test4 new)) (last_one (room_test (list_of new) n)))
    ∙ sym (chain_assoc (tests1to5 l) _ _)

-- ---- each refusal exactly

exactly : (ts : List Checked) (c : Checked) → in_order ts ≡ c → (r : Refusal) → (c ≡ Refused r) ↔ FirstFault ts r
exactly ts c e r = let f = first_fault ts r in (λ h. f.0 (e ∙ h), λ h. sym e ∙ f.1 h)

-- an operation that makes bytes where its tests pass refuses by them, and then by the room
answer_tests : (c : Checked) (bs : List ℕ) (n : ℕ) (r : Refusal) → (answer c bs n ≡ Err r) ↔ ((c ⟫ room_test bs n) ≡ Refused r)
unfolding answer room_test
answer_tests (Err q) bs n r = (λ e. let z : q ≡ r = cc in ap (λ (x : Refusal). Refused x) z, λ e. let z : q ≡ r = cc in ap (λ (x : Refusal). Err x) z)
answer_tests (Ok tt) bs n r =
    by_lt n (length bs)
    (λ h. rw (lt-ltb n (length bs) h, lt-leb (length bs) n h) (λ e. let z : Room ≡ r = cc in ap (λ (x : Refusal). Refused x) z, λ e. let z : Room ≡ r = cc in ap (λ (x : Refusal). Err x) z))
    (λ h. rw (le-ltb n (length bs) h, le-leb (length bs) n h) (λ e. let z : ◌≡◌ {A = ℕ} 0 1 = cc in absurd (omega arith), λ e. let z : ◌≡◌ {A = ℕ} 0 1 = cc in absurd (omega arith)))

writes_exactly : (ts : List Checked) (c : Checked) (bs : List ℕ) (n : ℕ) → in_order ts ≡ (c ⟫ room_test bs n) → (r : Refusal) → (answer c bs n ≡ Err r) ↔ FirstFault ts r
writes_exactly ts c bs n e r =
    let a = answer_tests c bs n r in
    let f = exactly ts (c ⟫ room_test bs n) e r in
    (λ h. f.0 (a.0 h), λ h. a.1 (f.1 h))

-- sheet to list refuses exactly by the first of tests 20, 3, 4 and 9 that finds fault
pub list_from_sheet_refuses : (s : List ℕ) (n : ℕ) (r : Refusal) → (list_answer s n ≡ Err r) ↔ FirstFault (sheet_chain s n) r
unfolding sheet_tests
list_from_sheet_refuses s n =
    writes_exactly (sheet_chain s n) (sheet_tests s) (list_of (flows_in s)) n
    (in_order-append (test20 s ∷ test3 (length (flows_in s)) ∷ test4 (flows_in s) ∷ []) (room_test (list_of (flows_in s)) n ∷ [])
    ∙ ap₂ ◌⟫◌ (last_three (test20 s) (test3 (length (flows_in s))) (test4 (flows_in s))) (last_one (room_test (list_of (flows_in s)) n)))

-- list to sheet refuses exactly by the first of tests 1 to 4 and 9 that finds fault
pub sheet_from_list_refuses : (l : List ℕ) (n : ℕ) (r : Refusal) → (sheet_answer l n ≡ Err r) ↔ FirstFault (list_chain l n) r
sheet_from_list_refuses l n =
    writes_exactly (list_chain l n) (tests1to4 l) (text (flows_of l)) n
    (in_order-append (chain1to4 l) (room_test (text (flows_of l)) n ∷ []) ∙ ap₂ ◌⟫◌ (tests_1_to_4 l) (last_one (room_test (text (flows_of l)) n)))

-- planning refuses exactly by the first of tests 1 to 10 that finds fault
pub plan_refuses : (l : List ℕ) (n : ℕ) (r : Refusal) → (plan_answer l n ≡ Err r) ↔ FirstFault (plan_chain l n) r
unfolding plan_answer answer
plan_refuses l n r =
    let f = exactly (plan_chain l n) (plan_tests l n) (plan_tests_lem l n) r in (
      λ h. f.0 (refused (plan_tests l n) refl h),
      λ h. rw (f.1 h),
    )
  where
    refused : (c : Checked) → plan_tests l n ≡ c → answer c (plan_table l) n ≡ Err r → plan_tests l n ≡ Refused r
    refused (Ok tt) e h =
        let z : Ok (place (grants (flows_of l))) ≡ Err r = sym (plan-answers l n e) ∙ ap (λ (c : Checked). answer c (plan_table l) n) e ∙ h in
        let z' : ◌≡◌ {A = ℕ} 0 1 = cc in
        absurd (omega arith)
    refused (Err q) e h = let z : q ≡ r = cc in e ∙ ap (λ (x : Refusal). Refused x) z

-- the check refuses exactly by the first of tests 1 to 7 and 11 to 18 that finds fault
pub check_refuses : (l t : List ℕ) (r : Refusal) → (check l t ≡ Refused r) ↔ FirstFault (check_chain l t) r
check_refuses l t = exactly (check_chain l t) (check l t) (check_tests l t)

-- the window refuses exactly by the first of tests 11, 12 and 19 that finds fault
pub window_refuses : (t : List ℕ) (a b : ℕ) (r : Refusal) → (window_tests t a b ≡ Refused r) ↔ FirstFault (window_chain t a b) r
window_refuses t a b = exactly (window_chain t a b) (window_tests t a b) (window_tests_lem t a b)

-- live add answers a refusal exactly where its tests refuse
pub add-stops : (l t : List ℕ) (f : Flow) (n m : ℕ) (r : Refusal) → (add_answer l t f n m ≡ Err r) ↔ (add_tests l t f n m ≡ Refused r)
unfolding add_answer
add-stops l t f n m r = (go (add_tests l t f n m), λ e. rw (e, add_answer))
  where
    go : (c : Checked) → ◌≡◌ {A = Written} (elim c [ Ok _ ↦ Ok (offset_found (flows_of l) (grants_of t) f) | Err q ↦ Err q ]) (Err r) → c ≡ Refused r
    go (Ok tt) e = let z : ◌≡◌ {A = ℕ} 0 1 = cc in absurd (omega arith)
    go (Err q) e = let z : q ≡ r = cc in ap (λ (x : Refusal). Refused x) z

-- live add refuses exactly by the first of its tests that finds fault
pub add_refuses : (l t : List ℕ) (f : Flow) (n m : ℕ) (r : Refusal) → (add_answer l t f n m ≡ Err r) ↔ FirstFault (add_chain l t f n m) r
add_refuses l t f n m r =
    let stops = add-stops l t f n m r in
    let first = exactly (add_chain l t f n m) (add_tests l t f n m) (add_tests_lem l t f n m) r in
    (λ h. first.0 (stops.0 h), λ h. stops.1 (first.1 h))

-- modem settings to list refuses exactly by the first of tests 26, 23, 24, 25, 3 to 6 and 9 that finds fault
pub settings_refuses : (ch : Channel) (s : List ℕ) (n : ℕ) (r : Refusal) → (settings_answer ch s n ≡ Err r) ↔ FirstFault (settings_chain ch s n) r
settings_refuses ch s n = writes_exactly (settings_chain ch s n) (settings_tests ch s) (list_of (flows_asked ch s)) n (settings_tests_lem ch s n)

-- 23 names the first encoding that is not sound
pub settings_23 : (s : List ℕ) (r : Refusal) → (test23 s ≡ Refused r) ↔ LowestPlace Encoding 1 (map sound (items s)) r
unfolding test23
settings_23 s = lowest-place Encoding 1 (map sound (items s))

-- 24 names the first encoding that is not complete
pub settings_24 : (s : List ℕ) (r : Refusal) → (test24 s ≡ Refused r) ↔ LowestPlace MissingSetting 1 (map complete (items s)) r
unfolding test24
settings_24 s = lowest-place MissingSetting 1 (map complete (items s))

-- 25 names the first encoding whose interval is not a whole number of slots
pub settings_25 : (ch : Channel) (s : List ℕ) (r : Refusal) → (test25 ch s ≡ Refused r) ↔ LowestPlace NotWhole 1 (map (whole_slots ch) (items s)) r
unfolding test25
settings_25 ch s = lowest-place NotWhole 1 (map (whole_slots ch) (items s))

-- rounding refuses exactly by the first of tests 1 to 5, 27, 28, 4 on the new list, and 9 that finds fault
pub round_refuses : (c : ℕ) (l : List ℕ) (n : ℕ) (r : Refusal) → (round_answer c l n ≡ Err r) ↔ FirstFault (round_chain c l n) r
round_refuses c l n = writes_exactly (round_chain c l n) (round_tests c l) (list_of (rounded_flows c (flows_of l))) n (round_tests_lem c l n)

-- 28 names the first record whose interval is below the base
pub round_28 : (c : ℕ) (fs : List Flow) (r : Refusal) → (test28 c fs ≡ Refused r) ↔ LowestPlace BelowBase 1 (map (reaches c) fs) r
unfolding test28
round_28 c fs = lowest-place BelowBase 1 (map (reaches c) fs)

-- ---- a refusal alters no byte

-- where an operation that writes refuses, its room is as it was
pub refused_untouched : (c : Checked) (bs room : List ℕ) (r : Refusal) → answer c bs (length room) ≡ Err r → written c bs room ≡ room
unfolding answer written
refused_untouched (Err q) bs room r e = refl
refused_untouched (Ok tt) bs room r e =
    by_lt (length room) (length bs) (λ h. rw (lt-ltb (length room) (length bs) h))
    (λ h. let z : Ok (length bs) ≡ Err r = rw (le-ltb (length room) (length bs) h) at e in let z' : ◌≡◌ {A = ℕ} 0 1 = cc in absurd (omega arith))

-- where live add refuses, both rooms are as they were
pub add_untouched : (l t : List ℕ) (number size interval jitter : ℕ) (a b a' b' : List ℕ) (r : Refusal)
    → LiveAdd l t number size interval jitter a b (Err r) a' b' → (a' ≡ a) × (b' ≡ b)
unfolding new_list_room new_table_room written
add_untouched l t number size interval jitter a b a' b' r h =
    let f = new_flow number size interval jitter in
    let e : add_tests l t f (length a) (length b) ≡ Refused r = (add-stops l t f (length a) (length b) r).0 (sym h.result) in
    (h.list_after ∙ rw e, h.table_after ∙ rw e)

-- where modem settings are refused, the room is as it was
pub settings_untouched : (microseconds bytes : ℕ) (s room room' : List ℕ) (r : Refusal) → ListFromSettings microseconds bytes s room (Err r) room' → room' ≡ room
settings_untouched microseconds bytes s room room' r h =
    let ch = channel microseconds bytes in
    h.bytes ∙ refused_untouched (settings_tests ch s) (list_of (flows_asked ch s)) room r (sym h.result)

-- where rounding is refused, the room is as it was
pub round_untouched : (c : ℕ) (l room room' : List ℕ) (r : Refusal) → RoundList c l room (Err r) room' → room' ≡ room
round_untouched c l room room' r h = h.bytes ∙ refused_untouched (round_tests c l) (list_of (rounded_flows c (flows_of l))) room r (sym h.result)

-- ---- success writes exactly the needed bytes at the front, and the rest stays

-- bytes that a room is long enough for stand at its front, and the rest of it stays
fills : (bs room : List ℕ) → length bs ≤ length room → written Passed bs room ≡ bs ++ drop (length bs) room
unfolding written
fills bs room h = rw (le-ltb (length room) (length bs) h)

-- where live add's tests pass, both rooms are long enough
roomy : (l t : List ℕ) (f : Flow) (n m : ℕ) → add_tests l t f n m ≡ Passed → (list_bytes (flows_of l) f ≤ n) × (table_bytes (flows_of l) (grants_of t) f ≤ m)
unfolding both_rooms
roomy l t f n m e =
    let y = and_both (leb (list_bytes (flows_of l) f) n) _ (unless_passed _ Room (each_passed l t f n m e).2) in
    (leb-true _ _ y.0, leb-true _ _ y.1)

-- where either room is too short, be it only one, both are as they were
pub add_short : (l t : List ℕ) (number size interval jitter : ℕ) (a b : List ℕ) (r : Written) (a' b' : List ℕ)
    → LiveAdd l t number size interval jitter a b r a' b'
    → let f = new_flow number size interval jitter in
    (length a < list_bytes (flows_of l) f) ⊎ (length b < table_bytes (flows_of l) (grants_of t) f) → (a' ≡ a) × (b' ≡ b)
add_short l t number size interval jitter a b (Err r) a' b' h s = add_untouched l t number size interval jitter a b a' b' r h
add_short l t number size interval jitter a b (Ok o) a' b' h s =
    let f = new_flow number size interval jitter in
    let y = roomy l t f (length a) (length b) (answered l t f (length a) (length b) o (sym h.result)).0 in
    ⊎_elim (λ p. absurd (omega (arith, y.0))) (λ p. absurd (omega (arith, y.1))) s

-- live add writes the new list and the table with the new flow at the offset that it answers
pub add_writes : (l t : List ℕ) (number size interval jitter : ℕ) (a b a' b' : List ℕ) (o : ℕ)
    → LiveAdd l t number size interval jitter a b (Ok o) a' b'
    → let f = new_flow number size interval jitter in
    (a' ≡ new_list l f ++ drop (length (new_list l f)) a) × (b' ≡ new_table l t f o ++ drop (length (new_table l t f o)) b)
unfolding new_list_room new_table_room table_added
add_writes l t number size interval jitter a b a' b' o h =
    let f = new_flow number size interval jitter in
    let e = answered l t f (length a) (length b) o (sym h.result) in
    let y = roomy l t f (length a) (length b) e.0 in (
      h.list_after ∙ rw e.0 (fills (new_list l f) a (omega (arith, y.0, length-new_list l f))),
      h.table_after ∙ rw (e.0, e.1) (fills (new_table l t f o) b (omega (arith, y.1, length-new_table l t f o))),
    )

-- an operation that makes bytes where its tests pass answers how many they are, and they stand at the front of its room
answer_writes : (c : Checked) (bs room : List ℕ) (k : ℕ) → answer c bs (length room) ≡ Ok k → (k ≡ length bs) × (written c bs room ≡ bs ++ drop (length bs) room)
unfolding answer
answer_writes (Err q) bs room k e = let z : ◌≡◌ {A = ℕ} 0 1 = cc in absurd (omega arith)
answer_writes (Ok tt) bs room k e =
    by_lt (length room) (length bs)
    (λ h. let z : Err Room ≡ Ok k = rw (lt-ltb (length room) (length bs) h) at e in let z' : ◌≡◌ {A = ℕ} 0 1 = cc in absurd (omega arith))
    (λ h. let z : Ok (length bs) ≡ Ok k = rw (le-ltb (length room) (length bs) h) at e in (cc, fills bs room h))

-- modem settings to list writes the list of the flows that they ask for, and answers how many bytes it has
pub settings_writes : (microseconds bytes : ℕ) (s room room' : List ℕ) (k : ℕ)
    → ListFromSettings microseconds bytes s room (Ok k) room'
    → let l = list_of (flows_asked (channel microseconds bytes) s) in
    (k ≡ length l) × (room' ≡ l ++ drop (length l) room)
settings_writes microseconds bytes s room room' k h =
    let ch = channel microseconds bytes in
    let w = answer_writes (settings_tests ch s) (list_of (flows_asked ch s)) room k (sym h.result) in
    (w.0, h.bytes ∙ w.1)

-- rounding writes the list of the flows with their intervals rounded, and answers how many bytes it has
pub round_writes : (c : ℕ) (l room room' : List ℕ) (k : ℕ)
    → RoundList c l room (Ok k) room'
    → let l' = list_of (rounded_flows c (flows_of l)) in
    (k ≡ length l') × (room' ≡ l' ++ drop (length l') room)
round_writes c l room room' k h =
    let w = answer_writes (round_tests c l) (list_of (rounded_flows c (flows_of l))) room k (sym h.result) in
    (w.0, h.bytes ∙ w.1)

-- ---- any two results that a statement allows are equal

-- sheet to list, list to sheet, plan, modem settings to list, rounding
pub writes_once : (answer : ℕ → Written) (after : List ℕ → List ℕ) (room : List ℕ) (r q : Written) (room' room'' : List ℕ)
    → Writes answer after room r room' → Writes answer after room q room'' → (r ≡ q) × (room' ≡ room'')
writes_once answer after room r q room' room'' a b = (a.result ∙ sym b.result, a.bytes ∙ sym b.bytes)

-- check
pub check_once : (l t : List ℕ) (r q : Checked) → Check l t r → Check l t q → r ≡ q
check_once l t r q a b = a ∙ sym b

-- window: its bytes, and where they stand
pub window_once : (t : Bor (List ℕ)) (a b : ℕ) (r q : Bor (List ℕ)) → Window t a b r → Window t a b q
    → (r.now ≡ q.now) × (r.ref_ptr.0 ≡ q.ref_ptr.0) × (r.ref_ptr.1 ≡ q.ref_ptr.1)
window_once t a b r q w v = one_stretch t r q _ _ w v

-- live add: its answer, and both rooms
pub add_once : (l t : List ℕ) (number size interval jitter : ℕ) (a b : List ℕ) (r q : Written) (a' a'' b' b'' : List ℕ)
    → LiveAdd l t number size interval jitter a b r a' b' → LiveAdd l t number size interval jitter a b q a'' b'' → (r ≡ q) × (a' ≡ a'') × (b' ≡ b'')
add_once l t number size interval jitter a b r q a' a'' b' b'' x y =
    (x.result ∙ sym y.result, x.list_after ∙ sym y.list_after, x.table_after ∙ sym y.table_after)
