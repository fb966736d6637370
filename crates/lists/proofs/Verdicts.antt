-- What the tests of a list answer, both ways. Assumes nothing.
use mathlib.Core.Path.{◌≡◌, sym, ap, ◌∙◌}
use mathlib.Core.Bool.{Bool, true, false, ◌&&◌}
use mathlib.Core.Logic.{◌↔◌}
use mathlib.Core.List.{List}
use Prim.Native.Nat.{ℕ, ◌/◌, ◌≤◌, ◌<◌}
use lib.Dec.{leb, eqb}
use lib.ListN.{length, get_or}
use borrow.Author.Tests.{lt-leb, le-leb, eq-eqb, ne_eqb, leb-true, eqb-true}
use Rattle.logic.specs.Lists.{All}
use Rattle.logic.proofs.Tests.{by_test, and_both}
use Rattle.flows.specs.declared.flow.Flow.{Flow}
use Rattle.logic.specs.Numbers.{among}
use Rattle.flows.specs.Flows.{keeps}
use Rattle.refusals.specs.declared.Refusal.{Refusal}
use Rattle.refusals.specs.declared.Refusal.TheVariants.{Length, Head, Count, Field, Limits}
use Rattle.refusals.specs.Results.{Checked, Passed, Refused}
use Rattle.refusals.specs.Tests.{unless, ◌⟫◌}
use Rattle.refusals.proofs.Chains.{unless_yes, unless_no, unless_passed, chain_assoc}
use Rattle.refusals.proofs.Entries.{each_passed}
use Rattle.lists.specs.Lists.{head_of, count, place, flows_of}
use Rattle.lists.specs.Facts.{cycle, frame, grants}
use Rattle.lists.specs.Tests.{test1, test2, test3, test1exact, test4, test7, tests1to4}

-- a test that would say what is not so fails
fails : (t : Bool) (r : Refusal) (P : Type 0) → (t ≡ true → P) → (P → ⊥) → unless t r ≡ Refused r
fails t r P says n = by_test t (λ e. absurd (n (says e))) (λ e. unless_no t r e)

module _ (l : List ℕ) where
  pub short : length l < 4 → test1 l ≡ Refused Length
  unfolding test1
  short h = rw (lt-leb 4 (length l) h)

  pub long : 4 ≤ length l → test1 l ≡ Passed
  unfolding test1
  long h = rw (le-leb 4 (length l) h)

  -- the head is that of a list
  abbrev pub Headed : Type 0
  Headed = (get_or (head_of l) 0 0 ≡ 1) × (get_or (head_of l) 1 0 ≡ 1) × (get_or (head_of l) 2 0 ≡ 0)

  head_says : eqb (get_or (head_of l) 0 0) 1 && (eqb (get_or (head_of l) 1 0) 1 && eqb (get_or (head_of l) 2 0) 0) ≡ true → Headed
  head_says t =
      let a = and_both (eqb (get_or (head_of l) 0 0) 1) _ t in
      let b = and_both (eqb (get_or (head_of l) 1 0) 1) _ a.1 in
      (eqb-true _ 1 a.0, eqb-true _ 1 b.0, eqb-true _ 0 b.1)

  pub list_head : Headed → test2 l ≡ Passed
  unfolding test2
  list_head h = rw (h.0, h.1, h.2)

  pub head_passed : test2 l ≡ Passed → Headed
  unfolding test2
  head_passed e = head_says (unless_passed _ Head e)

  pub inexact : (length l ≡ place (count l) → ⊥) → test1exact l ≡ Refused Length
  unfolding test1exact
  inexact n = rw (ne_eqb (length l) (place (count l)) n)

  pub exact : length l ≡ place (count l) → test1exact l ≡ Passed
  unfolding test1exact
  exact e = rw (eq-eqb (length l) (place (count l)) e)

  pub exact_passed : test1exact l ≡ Passed → length l ≡ place (count l)
  unfolding test1exact
  exact_passed e = eqb-true _ _ (unless_passed _ Length e)

-- a count of 1 to 128
abbrev pub Few : ℕ → Type 0
Few n = (1 ≤ n) × (n ≤ 128)

few_says : (n : ℕ) → among 1 128 n ≡ true → Few n
few_says n t = let a = and_both (leb 1 n) (leb n 128) t in (leb-true 1 n a.0, leb-true n 128 a.1)

pub not-few : (n : ℕ) → (Few n → ⊥) → test3 n ≡ Refused Count
unfolding test3
not-few n h = fails (among 1 128 n) Count (Few n) (few_says n) h

pub few : (n : ℕ) → Few n → test3 n ≡ Passed
unfolding test3
few n h = rw (le-leb 1 n h.0, le-leb n 128 h.1)

pub few_passed : (n : ℕ) → test3 n ≡ Passed → Few n
unfolding test3
few_passed n e = few_says n (unless_passed (among 1 128 n) Count e)

-- and of a count that is asked
module _ (n : ℕ) (b : Bool) (e : b ≡ among 1 128 n) where
  pub count-refused : b ≡ false → test3 n ≡ Refused Count
  unfolding test3
  count-refused z = unless_no (among 1 128 n) Count (sym e ∙ z)

  pub count_passed : b ≡ true → test3 n ≡ Passed
  unfolding test3
  count_passed y = unless_yes (among 1 128 n) Count (sym e ∙ y)

-- at most 256 frames and at most 1,024 grants
abbrev pub Limited : List Flow → Type 0
Limited fs = (cycle fs / frame fs ≤ 256) × (grants fs ≤ 1024)

limited_says : (fs : List Flow) → leb (cycle fs / frame fs) 256 && leb (grants fs) 1024 ≡ true → Limited fs
limited_says fs t = let a = and_both (leb (cycle fs / frame fs) 256) _ t in (leb-true _ 256 a.0, leb-true _ 1024 a.1)

pub not_limited : (fs : List Flow) → (Limited fs → ⊥) → test7 fs ≡ Refused Limits
unfolding test7
not_limited fs h = fails _ Limits (Limited fs) (limited_says fs) h

pub limited : (fs : List Flow) → Limited fs → test7 fs ≡ Passed
unfolding test7
limited fs h = rw (le-leb _ 256 h.0, le-leb _ 1024 h.1)

pub limited_passed : (fs : List Flow) → test7 fs ≡ Passed → Limited fs
unfolding test7
limited_passed fs e = limited_says fs (unless_passed _ Limits e)

-- tests 1 to 4 are those of the head and the length, and then test 4
pub head_first : (l : List ℕ) → tests1to4 l ≡ ((test1 l ⟫ test2 l ⟫ test3 (count l) ⟫ test1exact l) ⟫ test4 (flows_of l))
unfolding tests1to4
head_first l =
    sym
    (chain_assoc (test1 l) _ _
    ∙ ap (λ (c : Checked). test1 l ⟫ c) (chain_assoc (test2 l) _ _ ∙ ap (λ (c : Checked). test2 l ⟫ c) (chain_assoc (test3 (count l)) (test1exact l) (test4 (flows_of l)))))

-- test 4 passes exactly where every flow keeps its rule
pub kept_exactly : (fs : List Flow) → (test4 fs ≡ Passed) ↔ All (λ f. keeps f ≡ true) fs
unfolding test4
kept_exactly fs = each_passed keeps (λ f. keeps f ≡ true) (λ f. (λ t. t, λ t. t)) Field 1 fs
