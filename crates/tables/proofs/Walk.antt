-- A walk over the records of a table: what is left of it at record i, for each loop. Assumes nothing.
use mathlib.Core.Path.{◌≡◌, refl, ◌∙◌}
use mathlib.Core.Bool.{Bool, true, false}
use mathlib.Core.List.{List, [], ◌∷◌}
use Prim.Native.Nat.{ℕ, suc, ◌+◌, ◌-◌, ◌≤◌, ◌<◌, zero-le}
use native.Mathlib.Nat.{sub-zero}
use native.Mathlib.Numerals.{add-one}
use native.Mathlib.Omega.{arith}
use lib.Dec.{leb}
use lib.ListN.{get_or}
use borrow.Author.Tests.{le-leb, lt-leb, eq-eqb, ne_eqb}
use Rattle.refusals.specs.declared.Refusal.TheVariants.{TableForm, NotRising}
use Rattle.refusals.specs.Results.{Checked, Passed, Refused}
use Rattle.refusals.specs.Tests.{◌⟫◌, unless, lowest, against, after}
use Rattle.refusals.proofs.Lowest.{lowest-next, lowest-here}
use Rattle.tables.specs.declared.packed.Grant.{Grant}
use Rattle.tables.specs.Tables.{values_at, grant_at, spare_at, grants_from}
use Rattle.tables.specs.Form.{spared, rises, test12}
use Rattle.tables.specs.Parts.{record_tests}

-- ---- test 12, told by the least start that each grant may have

-- each grant starts where it may: the first at k or later, and each other after the one before it
unfoldable pub risings : ℕ → List Grant → List Bool
risings k [] = []
risings k (g ∷ gs) = leb k g.start ∷ risings (g.start + 1) gs

risings-after : (p : Grant) (seen gs : List Grant) → against (after rises) (p ∷ seen) gs ≡ risings (p.start + 1) gs
unfolding against after rises risings
risings-after p seen [] = refl
risings-after p seen (g ∷ gs) = rw (risings-after g (p ∷ seen) gs, add-one p.start)

risings-all : (gs : List Grant) → against (after rises) [] gs ≡ risings 0 gs
unfolding against after risings
risings-all [] = refl
risings-all (g ∷ gs) = rw (risings-after g [] gs, le-leb 0 g.start zero-le)

-- what tests 11 and 12 ask of the records from record i on, of which the first may not start before `least`
abbrev pub records_from : ℕ → List ℕ → ℕ → ℕ → Checked
records_from least t i n = unless (spared t i (n - i)) TableForm ⟫ lowest NotRising (i + 1) (risings least (grants_from t i (n - i)))

pub records-start : (t : List ℕ) (n : ℕ) → records_from 0 t 0 n ≡ record_tests t n
unfolding record_tests test12
records-start t n = rw (sub-zero n, risings-all (grants_from t 0 n))

module _ (t : List ℕ) (i n : ℕ) where
  -- ---- there is a record i

  module _ (h : i < n) where
    left : n - i ≡ suc (n - (i + 1))
    left = omega arith

    grants-next : grants_from t i (n - i) ≡ grant_at t i ∷ grants_from t (i + 1) (n - (i + 1))
    unfolding grants_from
    grants-next = rw (left, add-one)

    pub spared-next : spare_at t i ≡ 0 → spared t i (n - i) ≡ spared t (i + 1) (n - (i + 1))
    unfolding spared
    spared-next e = rw (left, add-one, eq-eqb (spare_at t i) 0 e)

    pub spared_stop : (spare_at t i ≡ 0 → ⊥) → spared t i (n - i) ≡ false
    unfolding spared
    spared_stop e = rw (left, ne_eqb (spare_at t i) 0 e)

    -- and its values are vs
    module _ (least : ℕ) (vs : List ℕ) (v : vs ≡ values_at t i) where
      pub records_spare : (get_or vs 3 0 ≡ 0 → ⊥) → records_from least t i n ≡ Refused TableForm
      unfolding spare_at
      records_spare e = rw (spared_stop (rw v at e))

      turn : get_or vs 3 0 ≡ 0
          → records_from least t i n
          ≡ (unless (spared t (i + 1) (n - (i + 1))) TableForm
          ⟫ lowest NotRising (i + 1) (leb least (get_or vs 1 0) ∷ risings (get_or vs 1 0 + 1) (grants_from t (i + 1) (n - (i + 1)))))
      unfolding spare_at grant_at risings
      turn e = rw (grants-next, spared-next (rw v at e), v)

      pub records-next : get_or vs 3 0 ≡ 0 → least ≤ get_or vs 1 0 → records_from least t i n ≡ records_from (get_or vs 1 0 + 1) t (i + 1) n
      records-next e l = turn e ∙ rw (lowest-next NotRising (i + 1) _ _ (le-leb least (get_or vs 1 0) l))

      pub records_stop : get_or vs 3 0 ≡ 0 → get_or vs 1 0 < least
          → records_from least t i n ≡ (unless (spared t (i + 1) (n - (i + 1))) TableForm ⟫ Refused (NotRising (i + 1)))
      records_stop e l = turn e ∙ rw (lowest-here NotRising (i + 1) _ _ (lt-leb least (get_or vs 1 0) l))

  -- ---- there is none

  module _ (h : n ≤ i) where
    pub spared_end : spared t i (n - i) ≡ true
    unfolding spared
    spared_end = let z : n - i ≡ 0 = omega arith in rw z

    pub records_end : (least : ℕ) → records_from least t i n ≡ Passed
    unfolding grants_from risings lowest
    records_end least = let z : n - i ≡ 0 = omega arith in rw (spared_end, z)
