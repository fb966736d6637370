-- A window of a table: test 19, what the tests leave, the grants before a start, and where the stretch stands. Assumes nothing.
use Rattle.std.proofs.Common.{◌≡◌, refl, ap, ◌&&◌, List, [], ◌∷◌, ℕ, ◌≤◌, ◌<◌, zero-le, suc-le-suc, arith, leb, length, le-leb, lt-ltb, le-ltb, leb-true, Ok, Err}
use borrow.Author.Tests.{lt-leb}
use Rattle.logic.proofs.Tests.{by_lt, and_both}
use Rattle.refusals.specs.declared.Refusal.{Refusal}
use Rattle.refusals.specs.declared.Refusal.TheVariants.{WindowEnds}
use Rattle.windows.specs.declared.stretch.Edges.{Edges}
use Rattle.refusals.specs.Results.{Checked, Passed, Refused}
use Rattle.refusals.proofs.Chains.{both_passed, unless_passed}
use Rattle.tables.specs.declared.packed.Grant.{Grant}
use Rattle.tables.specs.Tables.{count, cycle_of, place, grants_of}
use Rattle.tables.specs.Form.{test12, form_tests}
use Rattle.windows.specs.Window.{test19, window_tests, before, edge, edges_if, edges_of}
use Rattle.tables.proofs.Records.{count_small, length-grants}
use Rattle.tables.proofs.Forms.{Formed, form_passed}

-- ---- test 19

module _ (t : List ℕ) (a b : ℕ) where
  pub ends_crossed : b < a → Refused WindowEnds ≡ test19 t a b
  unfolding test19
  ends_crossed h = rw (lt-leb a b h)

  pub ends-past : (k : ℕ) → k ≡ cycle_of t → a ≤ b → k < b → Refused WindowEnds ≡ test19 t a b
  unfolding test19
  ends-past k e h l = rw (le-leb a b h, lt-leb b (cycle_of t) (omega arith))

  pub ends-good : (k : ℕ) → k ≡ cycle_of t → a ≤ b → b ≤ k → Passed ≡ test19 t a b
  unfolding test19
  ends-good k e h l = rw (le-leb a b h, le-leb b (cycle_of t) (omega arith))

-- ---- the grants before a start

pub before-le : (a : ℕ) (gs : List Grant) → before a gs ≤ length gs
unfolding before
before-le a [] = zero-le
before-le a (g ∷ gs) = by_lt g.start a (λ h. rw (lt-ltb g.start a h) (suc-le-suc (before-le a gs))) (λ h. rw (le-ltb g.start a h) zero-le)

-- of a table's grants
pub before_few : (t : List ℕ) (a : ℕ) → (before a (grants_of t) ≤ count t) × (count t < 65536)
before_few t a = (omega (arith, before-le a (grants_of t), length-grants t), count_small t)

-- a later end is no earlier
pub before_mono : (a b : ℕ) (gs : List Grant) → a ≤ b → before a gs ≤ before b gs
unfolding before
before_mono a b [] h = zero-le
before_mono a b (g ∷ gs) h =
    by_lt g.start a
    (λ l. rw (lt-ltb g.start a l, lt-ltb g.start b (omega arith)) (suc-le-suc (before_mono a b gs h)))
    (λ l. rw (le-ltb g.start a l) zero-le)

-- ---- what the tests leave

-- a table and a window that pass tests 11, 12 and 19
pub record Lawful (t : List ℕ) (a b : ℕ) : Type 0 where
  pub form : Formed t
  pub rising : test12 (grants_of t) ≡ Passed
  pub ordered : a ≤ b
  pub inside : b ≤ cycle_of t

pub lawful : (t : List ℕ) (a b : ℕ) → window_tests t a b ≡ Passed → Lawful t a b
unfolding window_tests test19
lawful t a b e =
    let both = both_passed (form_tests t) (test19 t a b) e in
    let form = form_passed t both.0 in
    let ends = and_both (leb a b) (leb b (cycle_of t)) (unless_passed (leb a b && leb b (cycle_of t)) WindowEnds both.1) in
    record {
      form = form.0;
      rising = form.1;
      ordered = leb-true a b ends.0;
      inside = leb-true b (cycle_of t) ends.1;
    }

-- the stretch stands in order inside the table
pub lawful_edges : (t : List ℕ) (a b : ℕ) → Lawful t a b
    → (before a (grants_of t) ≤ before b (grants_of t)) × (before b (grants_of t) ≤ 1024) × (place (before b (grants_of t)) ≤ length t)
lawful_edges t a b w =
    let le = before-le b (grants_of t) in
    (before_mono a b (grants_of t) w.ordered, omega (arith, length-grants t, w.form.all.count_le), omega (arith, length-grants t, w.form.all.exact))

module _ (k : Checked) (t : List ℕ) (a : ℕ) where
  pub edge_passed : (i : ℕ) → k ≡ Passed → i ≡ before a (grants_of t) → edge k t a ≡ place i
  unfolding edge
  edge_passed i e h = rw (e, h)

  pub edge-refused : (r : Refusal) → k ≡ Refused r → edge k t a ≡ 0
  unfolding edge
  edge-refused r e = rw e

-- what the answer to a window says
module _ (t : List ℕ) (a b : ℕ) where
  -- where it passes the starts rise
  pub window_rises : window_tests t a b ≡ Passed → test12 (grants_of t) ≡ Passed
  window_rises e = (lawful t a b e).rising

  -- and the edges say which it was
  pub refused_edges : (r : Refusal) → edges_of t a b ≡ Err r → window_tests t a b ≡ Refused r
  unfolding edges_of
  refused_edges r e = go (window_tests t a b) e
    where
      go : (k : Checked) → edges_if k t a b ≡ Err r → k ≡ Refused r
      go (Ok tt) q = let z : ◌≡◌ {A = ℕ} 0 1 = cc in absurd (omega arith)
      go (Err s) q = let z : s ≡ r = cc in ap (λ (x : Refusal). Refused x) z

  pub passed_edges : (i j : ℕ) → edges_of t a b ≡ Ok (record { start = i; end = j }) → let k = window_tests t a b in (k ≡ Passed) × (i ≡ edge k t a) × (j ≡ edge k t b)
  unfolding edges_of
  passed_edges i j e = go (window_tests t a b) e
    where
      go : (k : Checked) → edges_if k t a b ≡ Ok (record { start = i; end = j }) → (k ≡ Passed) × (i ≡ edge k t a) × (j ≡ edge k t b)
      go (Ok tt) q =
          let found : ◌≡◌ {A = Edges} (record { start = i; end = j }) (record { start = edge Passed t a; end = edge Passed t b }) = cc in
          (refl, ap (λ (x : Edges). x.start) found, ap (λ (x : Edges). x.end) found)
      go (Err s) q = let z : ◌≡◌ {A = ℕ} 0 1 = cc in absurd (omega arith)

  -- on a refusal both stand at the table's front
  pub edges_none : (r : Refusal) → edges_of t a b ≡ Err r → (edge (window_tests t a b) t a ≡ 0) × (edge (window_tests t a b) t b ≡ 0)
  unfolding edges_of edge
  edges_none r e = go (window_tests t a b) e
    where
      go : (k : Checked) → edges_if k t a b ≡ Err r → (edge k t a ≡ 0) × (edge k t b ≡ 0)
      go (Ok tt) q = let z : ◌≡◌ {A = ℕ} 0 1 = cc in absurd (omega arith)
      go (Err s) q = (refl, refl)

  -- the edges are the window's, in order and inside the table
  pub edges_found : (r : Edges) → edges_of t a b ≡ Ok r
      → let k = window_tests t a b in (r.start ≡ edge k t a) × (r.end ≡ edge k t b) × (r.start ≤ r.end) × (r.end ≤ length t)
  unfolding edges_of edge
  edges_found r e = go (window_tests t a b) refl e
    where
      go : (k : Checked) → window_tests t a b ≡ k → edges_if k t a b ≡ Ok r → (r.start ≡ edge k t a) × (r.end ≡ edge k t b) × (r.start ≤ r.end) × (r.end ≤ length t)
      go (Ok tt) w q =
          let found : record { start = edge Passed t a; end = edge Passed t b } ≡ r = cc in
          let inside = lawful_edges t a b (lawful t a b w) in
          rw (← found) (refl, refl, omega (arith, inside.0), inside.2)
      go (Err s) w q = let z : ◌≡◌ {A = ℕ} 0 1 = cc in absurd (omega arith)
