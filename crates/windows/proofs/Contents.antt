-- A window's stretch holds the records of the grants that start in it and no other, and its answer is the only one.
-- Assumes nothing.
use Rattle.std.proofs.Common.{◌≡◌, refl, sym, ap, ◌∙◌, List, [], ◌∷◌, ℕ, suc, ◌-◌, ◌≤◌, ◌<◌, zero-add, arith, get_or, take, drop, le-leb, lt-ltb, le-ltb, Bor}
use native.Mathlib.Nat.{sub-zero}
use borrow.Author.Tests.{lt-leb}
use Rattle.logic.proofs.Tests.{by_lt}
use Rattle.refusals.specs.declared.Refusal.{Refusal}
use Rattle.refusals.specs.Results.{Passed, Refused}
use Rattle.tables.specs.declared.packed.Grant.{Grant}
use Rattle.tables.specs.Tables.{place, grants_of, records}
use Rattle.tables.specs.Form.{test12}
use Rattle.windows.specs.Window.{window_tests, before, starting_in, edge, Stretch}
use Rattle.tables.proofs.Forms.{is_formed}
use Rattle.tables.proofs.Meaning.{records_part}
use Rattle.windows.proofs.Rising.{RisesFrom, Rises, rises-rest, rises-all}
use Rattle.windows.proofs.Windows.{lawful, edge_passed, edge-refused}

-- ---- the grants of the stretch

module _ (a b : ℕ) where
  none_before : (p : Grant) (gs : List Grant) → a ≤ p.start → RisesFrom p gs → before a gs ≡ 0
  unfolding before
  none_before p [] l h = refl
  none_before p (g ∷ gs) l h = rw (le-ltb g.start a (omega arith))

  none_in : (p : Grant) (gs : List Grant) → b ≤ p.start → RisesFrom p gs → starting_in a b gs ≡ []
  unfolding starting_in
  none_in p [] l h = refl
  none_in p (g ∷ gs) l h =
      let rest = none_in g gs (omega arith) h.1 in
      by_lt g.start a
      (λ s. rw (lt-leb a g.start s) rest)
      (λ s. rw (le-leb a g.start s, le-ltb g.start b (omega arith)) rest)

  -- the stretch of grants is those that start in the window
  abbrev Cut : List Grant → Type 0
  Cut gs = take (before b gs - before a gs) (drop (before a gs) gs) ≡ starting_in a b gs

  -- and is so with one grant more, wherever that starts
  module _ (g : Grant) (gs : List Grant) (h : RisesFrom g gs) where
    cut_before : g.start < a → g.start < b → Cut gs → Cut (g ∷ gs)
    unfolding before starting_in
    cut_before l m rest =
        let e : suc (before b gs) - suc (before a gs) ≡ before b gs - before a gs = omega arith in
        rw (lt-ltb g.start a l, lt-ltb g.start b m, lt-leb a g.start l, e) rest

    cut_crossed : g.start < a → b ≤ g.start → Cut (g ∷ gs)
    unfolding before starting_in
    cut_crossed l m =
        let e : 0 - suc (before a gs) ≡ 0 = omega arith in
        rw (lt-ltb g.start a l, le-ltb g.start b m, lt-leb a g.start l, e) (sym (none_in g gs m h))

    cut_inside : a ≤ g.start → g.start < b → Cut gs → Cut (g ∷ gs)
    unfolding before starting_in
    cut_inside l m rest =
        let whole : take (before b gs) gs ≡ starting_in a b gs = rw (none_before g gs l h, sub-zero (before b gs)) at rest in
        rw (le-ltb g.start a l, lt-ltb g.start b m, le-leb a g.start l, sub-zero (suc (before b gs)), whole)

    cut_behind : a ≤ g.start → b ≤ g.start → Cut (g ∷ gs)
    unfolding before starting_in
    cut_behind l m = rw (le-ltb g.start a l, le-ltb g.start b m, le-leb a g.start l) (sym (none_in g gs m h))

  cut : (gs : List Grant) → Rises gs → Cut gs
  unfolding before starting_in
  cut [] h = refl
  cut (g ∷ gs) h =
      let rest = cut gs (rises-rest g gs h) in
      by_lt g.start a
      (λ l. by_lt g.start b (λ m. cut_before g gs h l m rest) (cut_crossed g gs h l))
      (λ l. by_lt g.start b (λ m. cut_inside g gs h l m rest) (cut_behind g gs h l))

  pub window-grants : (gs : List Grant) → test12 gs ≡ Passed → take (before b gs - before a gs) (drop (before a gs) gs) ≡ starting_in a b gs
  window-grants gs e = cut gs (rises-all gs e)

-- ---- the stretch

module _ (t : List ℕ) (bytes : (i : ℕ) → get_or t i 0 < 256) (a b : ℕ) (passed : window_tests t a b ≡ Passed) where
  -- its bytes are those grants' records
  pub window-records : take (place (before b (grants_of t)) - place (before a (grants_of t))) (drop (place (before a (grants_of t))) t) ≡ records (starting_in a b (grants_of t))
  window-records =
      let gs = grants_of t in
      let w = lawful t a b passed in
      records_part t bytes (is_formed t w.form) (before a gs) (before b gs) ∙ ap records (window-grants a b gs w.rising)

module _ (s : Bor (List ℕ)) (a b : ℕ) where
  -- what the contract of the window says of an answer r
  abbrev pub Answer : Bor (List ℕ) → Type 0
  Answer r = Stretch s r (edge (window_tests s.now a b) s.now a) (edge (window_tests s.now a b) s.now b)

  -- the records with a ≤ start < b
  pub window-holds : (r : Bor (List ℕ)) → Answer r → ((i : ℕ) → get_or s.now i 0 < 256) → window_tests s.now a b ≡ Passed
      → r.now ≡ records (starting_in a b (grants_of s.now))
  window-holds r w bytes e =
      rw (edge_passed _ s.now a _ e refl, edge_passed _ s.now b _ e refl) at w.elements ∙ window-records s.now bytes a b e

  -- on refusal it is empty, at the table's front
  pub window-refused : (r : Bor (List ℕ)) (refusal : Refusal) → Answer r → window_tests s.now a b ≡ Refused refusal
      → (r.now ≡ []) × (r.ref_ptr.0 ≡ s.ref_ptr.0) × (r.ref_ptr.1 ≡ s.ref_ptr.1)
  window-refused r refusal w e =
      let i = edge-refused _ s.now a refusal e in
      let k = edge-refused _ s.now b refusal e in
      (rw (i, k) at w.elements, w.block, rw (i, zero-add) at w.byte)

-- two answers that the contract allows have the same bytes at the same place
pub one_stretch : (s r r' : Bor (List ℕ)) (i e : ℕ) → Stretch s r i e → Stretch s r' i e
    → (r.now ≡ r'.now) × (r.ref_ptr.0 ≡ r'.ref_ptr.0) × (r.ref_ptr.1 ≡ r'.ref_ptr.1)
one_stretch s r r' i e w w' = (w.elements ∙ sym w'.elements, w.block ∙ sym w'.block, w.byte ∙ sym w'.byte)
