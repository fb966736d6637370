-- What test 11 asks of a table, as orders and equations. Assumes nothing.
use mathlib.Core.Path.{◌≡◌, refl, sym, ◌∙◌}
use mathlib.Core.Bool.{true, false, ◌&&◌, and_assoc}
use mathlib.Core.List.{List}
use Prim.Native.Nat.{ℕ, ◌≤◌}
use lib.Dec.{leb, eqb}
use lib.ListN.{length, get_or}
use borrow.Author.Tests.{le-leb, eq-eqb, ne_eqb, leb-true, eqb-true}
use Rattle.logic.specs.Numbers.{among}
use Rattle.logic.proofs.Tests.{by_test, and_both, both_and, among_both}
use Rattle.refusals.specs.declared.Refusal.TheVariants.{TableForm}
use Rattle.refusals.specs.Results.{Passed}
use Rattle.refusals.specs.Tests.{◌⟫◌, unless}
use Rattle.refusals.proofs.Chains.{both_passed, unless_passed}
use Rattle.tables.specs.Tables.{head_of, count, place, grants_of}
use Rattle.tables.specs.Form.{headed, spared, formed, test11, test12, form_tests}
use Rattle.tables.specs.Parts.{whole, record_tests}

-- ---- the head

module _ (t : List ℕ) where
  pub headed_is : headed t ≡ true → (get_or (head_of t) 0 0 ≡ 1) × (get_or (head_of t) 1 0 ≡ 2) × (get_or (head_of t) 2 0 ≡ 0)
  unfolding headed
  headed_is h =
      let a = and_both (eqb (get_or (head_of t) 0 0) 1) _ h in
      let b = and_both (eqb (get_or (head_of t) 1 0) 2) _ a.1 in
      (eqb-true _ 1 a.0, eqb-true _ 2 b.0, eqb-true _ 0 b.1)

-- ---- the table

-- what test 11 asks but for the records' spare bits
pub record Whole (t : List ℕ) : Type 0 where
  pub long : 8 ≤ length t
  pub head : headed t ≡ true
  pub counted : 1 ≤ count t
  pub count_le : count t ≤ 1024
  pub exact : length t ≡ place (count t)

module _ (t : List ℕ) where
  pub whole_is : whole t ≡ true → Whole t
  unfolding whole
  whole_is h =
      let a = and_both (leb 8 (length t)) _ h in
      let b = and_both (headed t) _ a.1 in
      let d = and_both (among 1 1024 (count t)) _ b.1 in
      let n = among_both 1 1024 (count t) d.0 in
      record {
        long = leb-true 8 (length t) a.0;
        head = b.0;
        counted = n.0;
        count_le = n.1;
        exact = eqb-true (length t) (place (count t)) d.1;
      }

  -- what is left to test where the others have passed
  pub whole_but_length : 8 ≤ length t → headed t ≡ true → 1 ≤ count t → count t ≤ 1024 → whole t ≡ eqb (length t) (place (count t))
  unfolding whole
  whole_but_length l h c d = rw (le-leb 8 (length t) l, h, le-leb 1 (count t) c, le-leb (count t) 1024 d)

  formed_parts : formed t ≡ whole t && spared t 0 (count t)
  unfolding formed whole
  formed_parts =
      let zeros = spared t 0 (count t) in
      sym (rw (and_assoc (leb 8 (length t)) _ zeros, and_assoc (headed t) _ zeros, and_assoc (among 1 1024 (count t)) _ zeros) refl)

-- test 11
pub record Formed (t : List ℕ) : Type 0 where
  pub all : Whole t
  pub zeros : spared t 0 (count t) ≡ true

module _ (t : List ℕ) where
  pub formed_is : formed t ≡ true → Formed t
  formed_is h = let both = and_both (whole t) (spared t 0 (count t)) (sym (formed_parts t) ∙ h) in record { all = whole_is t both.0; zeros = both.1 }

  pub is_formed : Formed t → formed t ≡ true
  is_formed f =
      let w = f.all in
      formed_parts t ∙ both_and (whole t) (spared t 0 (count t)) (whole_but_length t w.long w.head w.counted w.count_le ∙ eq-eqb (length t) (place (count t)) w.exact) f.zeros

  -- tests 11 and 12 in the two parts that the code makes them in
  pub form_parts : form_tests t ≡ (unless (whole t) TableForm ⟫ record_tests t (count t))
  unfolding form_tests test11 record_tests grants_of
  form_parts = rw (formed_parts t) (by_test (whole t) (λ e. rw e) (λ e. rw e))

  -- what tests 11 and 12 leave
  pub form_passed : form_tests t ≡ Passed → Formed t × (test12 (grants_of t) ≡ Passed)
  unfolding form_tests test11
  form_passed e =
      let both = both_passed (test11 t) (test12 (grants_of t)) e in
      (formed_is (unless_passed (formed t) TableForm both.0), both.1)
