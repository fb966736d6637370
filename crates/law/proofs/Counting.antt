-- Double counting: what the grants weigh flow by flow is what they weigh grant by grant. Assumes nothing.
use mathlib.Core.Path.{◌≡◌, sym, ◌∙◌}
use mathlib.Core.Bool.{true, false}
use mathlib.Core.List.{List, [], ◌∷◌}
use Prim.Native.Nat.{ℕ, ◌+◌, ◌*◌}
use native.Mathlib.Omega.{arith}
use lib.Dec.{eqb}
use lib.ListN.{length}
use borrow.Author.Tests.{eqb-true, eqb-false, eq-eqb, ne_eqb}
use Rattle.logic.specs.Lists.{All, sum}
use Rattle.logic.proofs.Tests.{by_test, true-not-false}
use Rattle.logic.proofs.Members.{all_imp, all_each}
use Rattle.logic.proofs.Sums.{sum_same, sum-add, sum-zero}
use Rattle.flows.specs.declared.flow.Flow.{Flow}
use Rattle.lists.specs.Accepted.{Distinct}
use Rattle.tables.specs.declared.packed.Grant.{Grant}
use Rattle.law.specs.Check.{known, look, to}

-- 1 for the number, 0 for any other
unfoldable pub mark : ℕ → ℕ → ℕ
mark x y = elim (eqb x y) [ true ↦ 1 | false ↦ 0 ]

pub mark_same : (x y : ℕ) → x ≡ y → mark x y ≡ 1
unfolding mark
mark_same x y e = rw (eq-eqb x y e, mark)

pub mark-other : (x y : ℕ) → (x ≡ y → ⊥) → mark x y ≡ 0
unfolding mark
mark-other x y e = rw (ne_eqb x y e, mark)

-- one more grant
to-length : (x : ℕ) (r : Grant) (rs : List Grant) → length (to x (r ∷ rs)) ≡ mark r.flow x + length (to x rs)
unfolding to mark
to-length x r rs = by_test (eqb r.flow x) (λ e. rw (e, to, mark) (omega arith)) (λ e. rw (e, to, mark) (omega arith))

module _ (v : Flow → ℕ) where
  -- a known number is that of one flow
  pub look-sum : (fs : List Flow) → Distinct fs → (x : ℕ) → known fs x ≡ true → sum (λ f. v f * mark x f.number) fs ≡ v (look fs x)
  unfolding sum known look
  look-sum [] d x k = true-not-false (sym k)
  look-sum (f ∷ fs) d x k =
      by_test (eqb f.number x)
      (λ e.
      let n : f.number ≡ x = eqb-true f.number x e in
      let rest : sum (λ f. v f * mark x f.number) fs ≡ 0 =
      sum-zero (λ f. v f * mark x f.number) fs
      (all_imp (λ g. f.number ≡ g.number → ⊥) (λ g. v g * mark x g.number ≡ 0) fs
      (λ g h. rw (mark-other x g.number (λ q. h (n ∙ q))) (omega arith)) d.0) in
      rw (e, look) (rw (mark_same x f.number (sym n), rest) (omega arith)))
      (λ e.
      let other : mark x f.number ≡ 0 = mark-other x f.number (λ q. eqb-false f.number x e (sym q)) in
      rw (e, look) (rw other (omega (arith, look-sum fs d.1 x (rw (e, known) at k)))))

  -- the grants of a table whose flows are listed
  pub counting : (fs : List Flow) → Distinct fs → (rs : List Grant) → All (λ r. known fs r.flow ≡ true) rs
      → sum (λ f. v f * length (to f.number rs)) fs ≡ sum (λ r. v (look fs r.flow)) rs
  unfolding sum to
  counting fs d [] k = sum-zero (λ f. v f * 0) fs (all_each (λ f. v f * 0 ≡ 0) fs (λ f. omega arith))
  counting fs d (r ∷ rs) k =
      let split : sum (λ f. v f * length (to f.number (r ∷ rs))) fs ≡ sum (λ f. v f * mark r.flow f.number + v f * length (to f.number rs)) fs =
      sum_same (λ f. v f * length (to f.number (r ∷ rs))) (λ f. v f * mark r.flow f.number + v f * length (to f.number rs)) fs
      (all_each (λ f. v f * length (to f.number (r ∷ rs)) ≡ v f * mark r.flow f.number + v f * length (to f.number rs)) fs
      (λ f. rw (to-length f.number r rs) (omega arith))) in
      omega (
        arith,
        split,
        sum-add (λ f. v f * mark r.flow f.number) (λ f. v f * length (to f.number rs)) fs,
        look-sum fs d r.flow k.0,
        counting fs d rs k.1,
      )
