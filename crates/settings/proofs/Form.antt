-- Reading and form agree: tests 23 and 24 pass exactly where the bytes are a run of upstream service flow encodings with each of the
-- four settings exactly once, and a run asks for one thing only. Assumes nothing.
use Rattle.std.proofs.Common.{◌≡◌, refl, sym, ap, subst, ◌∙◌, Bool, true, ◌↔◌, List, [], ◌∷◌, ◌++◌, map, ℕ, zero, suc, ◌≤◌, arith, leb, eqb, length, drop, length-drop, take-append-drop, length-take-le, leb-true, eq-eqb, eqb-true}
use Rattle.logic.specs.Lists.{All, every}
use Rattle.logic.proofs.Tests.{by_test, true-not-false, and_both}
use Rattle.logic.proofs.Members.{all_imp, all_both, all-every}
use Rattle.refusals.specs.declared.Refusal.{Refusal}
use Rattle.refusals.specs.declared.Refusal.TheVariants.{Encoding, MissingSetting}
use Rattle.refusals.specs.Results.{Passed}
use Rattle.refusals.specs.Tests.{lowest}
use Rattle.refusals.proofs.Entries.{each_passed}
use Rattle.settings.specs.declared.Said.{Said}
use Rattle.settings.specs.declared.Said.TheVariants.{Is}
use Rattle.settings.specs.declared.Call.{Call}
use Rattle.settings.specs.Runs.{Item, holds, broken, first_items, items, whole, encoded}
use Rattle.settings.specs.Encodings.{upstream, grant_size, nominal_interval, tolerated_jitter, grants_per_interval, values_of, said, call_of, call, good, present, all_four, sound, complete}
use Rattle.settings.specs.Form.{Amounts, Once, SettingsOf, RunOf}
use Rattle.settings.specs.Slots.{amount}
use Rattle.settings.specs.Tests.{test23, test24}
use Rattle.settings.proofs.Runs.{items-none, items_front}

-- ---- a run and its items

-- the items of the bytes that say items are these
pub items-encoded : (is : List Item) → every whole is ≡ true → items (encoded is) ≡ is
unfolding every encoded
items-encoded [] h = items-none
items-encoded (holds t v ∷ is) h = items_front t v (encoded is) ∙ ap (λ (js : List Item). holds t v ∷ js) (items-encoded is h)
items-encoded (broken ∷ is) h = true-not-false (sym h)

-- as many items as there are bytes, or more
first-encoded : (n : ℕ) (s : List ℕ) → length s ≤ n → every whole (first_items n s) ≡ true → encoded (first_items n s) ≡ s
unfolding every first_items encoded
first-encoded zero [] l h = refl
first-encoded zero (t ∷ s) l h = absurd (omega (arith, l))
first-encoded (suc n) [] l h = refl
first-encoded (suc n) (t ∷ []) l h = true-not-false (sym h)
first-encoded (suc n) (t ∷ z ∷ s) l h =
    by_test (leb z (length s))
    (λ e. rw (e, length-take-le z s (leb-true z (length s) e), first-encoded n (drop z s) (omega (arith, l, length-drop z s)) (rw e at h), take-append-drop z s))
    (λ e. true-not-false (sym (rw e at h)))

-- the bytes that say the items of a run are the run
pub encoded-items : (s : List ℕ) → every whole (items s) ≡ true → encoded (items s) ≡ s
unfolding items
encoded-items s h = first-encoded (length s) s (omega arith) h

-- ---- one of the four

-- it is said once, by the right number of bytes
says : (t n v : ℕ) (is : List Item) → Once t n v is → said n (values_of t is) ≡ Is v
says t n v is o = rw (o.alone, eq-eqb (length o.value) n o.long, o.gives)

-- what is neither missing nor bad is said once
once : (t n : ℕ) (is : List Item) (vs : List (List ℕ)) → values_of t is ≡ vs → good (said n vs) ≡ true → present (said n vs) ≡ true
    → Once t n (amount (said n vs)) is
once t n is [] e g p = true-not-false (sym p)
once t n is (w ∷ []) e g p =
    by_test (eqb (length w) n)
    (λ q. record { value = w; alone = e; long = eqb-true (length w) n q; gives = rw q })
    (λ q. true-not-false (sym (rw q at g)))
once t n is (w ∷ x ∷ vs) e g p = true-not-false (sym g)

-- ---- an encoding

-- what an encoding asks for, 0 where it says nothing
abbrev pub amounts : Item → Amounts
amounts i =
    let c = call i in
    record { size = amount c.size; interval = amount c.interval; jitter = amount c.jitter; grants = amount c.grants }

-- the call for amounts
abbrev asks : Amounts → Call
asks a = record { size = Is a.size; interval = Is a.interval; jitter = Is a.jitter; grants = Is a.grants }

-- an encoding of the right form
module _ (a : Amounts) (v : List ℕ) (h : SettingsOf a v) where
  -- what is read of its bytes is what they hold
  held_items : items v ≡ h.held
  held_items = ap items h.exactly ∙ items-encoded h.held h.unbroken

  -- it asks for its amounts
  settings_call : call (holds upstream v) ≡ asks a
  unfolding call call_of
  settings_call =
      let is = h.held in
      rw (held_items, says _ _ _ is h.says_size, says _ _ _ is h.says_interval, says _ _ _ is h.says_jitter, says _ _ _ is h.says_grants)

  -- and passes 23 and 24
  settings_taken : (sound (holds upstream v) ≡ true) × (complete (holds upstream v) ≡ true)
  unfolding sound complete all_four
  settings_taken = (rw (held_items, h.unbroken, settings_call), rw settings_call)

-- each of the four passes
each_four : (ok : Said → Bool) (c : Call) → all_four ok c ≡ true
    → (ok c.size ≡ true) × (ok c.interval ≡ true) × (ok c.jitter ≡ true) × (ok c.grants ≡ true)
unfolding all_four
each_four ok c h =
    let a = and_both (ok c.size) _ h in
    let b = and_both (ok c.interval) _ a.1 in
    let d = and_both (ok c.jitter) (ok c.grants) b.1 in
    (a.0, b.0, d.0, d.1)

-- an encoding that passes 23 and 24 has the form of one
taken_settings : (u : ℕ) (v : List ℕ) → sound (holds u v) ≡ true → complete (holds u v) ≡ true → (u ≡ upstream) × SettingsOf (amounts (holds u v)) v
unfolding sound complete call call_of
taken_settings u v s c =
    let a = and_both (eqb u upstream) _ s in
    let b = and_both (every whole (items v)) _ a.1 in
    let g = each_four good (call (holds u v)) b.1 in
    let p = each_four present (call (holds u v)) c in (
      eqb-true u upstream a.0,
      record {
        held = items v;
        unbroken = b.0;
        exactly = sym (encoded-items v b.0);
        says_size = once grant_size 2 (items v) _ refl g.0 p.0;
        says_interval = once nominal_interval 4 (items v) _ refl g.1 p.1;
        says_jitter = once tolerated_jitter 4 (items v) _ refl g.2 p.2;
        says_grants = once grants_per_interval 1 (items v) _ refl g.3 p.3;
      },
    )

-- ---- a run

-- both tests, of each encoding
abbrev Taken : Item → Type 0
Taken i = (sound i ≡ true) × (complete i ≡ true)

-- the encodings of a run are taken, and ask for its amounts
run-items : (asked : List Amounts) (s : List ℕ) → RunOf asked s → All Taken (items s) × (asked ≡ map amounts (items s))
run-items [] s e = rw (e, items-none) (tt, refl)
run-items (a ∷ rest) s (v, t, h, r, e) =
    let ih = run-items rest t r in
    rw (e, items_front upstream v t) ((settings_taken a v h, ih.0), rw (settings_call a v h) (ap (λ (bs : List Amounts). a ∷ bs) ih.1))

-- encodings that are taken are a run
taken_items : (is : List Item) → All Taken is → RunOf (map amounts is) (encoded is)
unfolding encoded sound
taken_items [] h = refl
taken_items (holds u v ∷ is) h =
    let k = taken_settings u v h.0.0 h.0.1 in
    (v, encoded is, k.1, taken_items is h.1, ap (λ (t : ℕ). t ∷ length v ∷ (v ++ encoded is)) k.0)
taken_items (broken ∷ is) h = true-not-false (sym h.0.0)

-- a test of the encodings passes exactly where each of them does
pub each_encoding : (ok : Item → Bool) (refusal : ℕ → Refusal) (s : List ℕ)
    → (lowest refusal 1 (map ok (items s)) ≡ Passed) ↔ All (λ i. ok i ≡ true) (items s)
each_encoding ok refusal s = each_passed ok (λ i. ok i ≡ true) (λ i. (λ t. t, λ t. t)) refusal 1 (items s)

-- the tests pass where the bytes are a run
pub run_taken : (asked : List Amounts) (s : List ℕ) → RunOf asked s → (test23 s ≡ Passed) × (test24 s ≡ Passed)
unfolding test23 test24
run_taken asked s r =
    let h = (run-items asked s r).0 in (
      (each_encoding sound Encoding s).1 (all_imp Taken (λ i. sound i ≡ true) (items s) (λ i t. t.0) h),
      (each_encoding complete MissingSetting s).1 (all_imp Taken (λ i. complete i ≡ true) (items s) (λ i t. t.1) h),
    )

-- what is taken is not broken
taken_whole : (i : Item) → Taken i → whole i ≡ true
unfolding sound
taken_whole (holds u v) h = refl
taken_whole broken h = h.0

-- and only there: what passes them is a run
pub taken_run : (s : List ℕ) → test23 s ≡ Passed → test24 s ≡ Passed → (asked : List Amounts) × RunOf asked s
unfolding test23 test24
taken_run s p q =
    let a = (each_encoding sound Encoding s).0 p in
    let b = (each_encoding complete MissingSetting s).0 q in
    let h = all_both (λ i. sound i ≡ true) (λ i. complete i ≡ true) Taken (items s) (λ i x y. (x, y)) a b in
    let w = all-every whole (items s) (all_imp Taken (λ i. whole i ≡ true) (items s) taken_whole h) in
    (map amounts (items s), subst (RunOf (map amounts (items s))) (encoded-items s w) (taken_items (items s) h))

-- what a run asks for is what its encodings say
pub run-amounts : (asked : List Amounts) (s : List ℕ) → RunOf asked s → asked ≡ map amounts (items s)
run-amounts asked s r = (run-items asked s r).1

-- so a run asks for one thing only
pub run-one : (a b : List Amounts) (s : List ℕ) → RunOf a s → RunOf b s → a ≡ b
run-one a b s p q = run-amounts a s p ∙ sym (run-amounts b s q)
