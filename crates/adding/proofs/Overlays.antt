-- The intervals of the cycle laid over one another: what is marked slot by slot and grant by grant. Assumes nothing.
use Rattle.std.proofs.Common.{◌≡◌, sym, ap, ◌∙◌, inl, inr, ⊎_elim, List, ℕ, ◌+◌, ◌-◌, ◌/◌, ◌%◌, ◌≤◌, ◌<◌, arith, mod-eq_of_lt, length}
use native.Mathlib.Nat.{mod-add-mod}
use Rattle.logic.proofs.Tests.{by_lt, by_eq}
use Rattle.marks.specs.Marks.{bit, Marks}
use Rattle.flows.specs.declared.flow.Flow.{Flow}
use Rattle.tables.specs.declared.packed.Grant.{Grant}
use Rattle.law.specs.Check.{slots}
use Rattle.law.specs.Law.{nth}
use Rattle.adding.specs.Parts.{Unmarked, Laid, Overlaid}

-- r slots more, no further than the interval's end
pub laid_next : (xs ys zs : List ℕ) (i a b r : ℕ) → a ≤ b → Laid xs i a b ys → b % i + r ≤ i → b % i / 8 < length ys → Marks ys (b % i) r zs → Laid xs i a (b + r) zs
laid_next xs ys zs i a b r low L ends h M =
    record {
      all = λ s g k. by_lt s b (λ l. stays (s % i) (L.all s g l))
          (λ l.
          let e : b + (s - b) ≡ s = omega arith in
          rw (ap (λ (x : ℕ). x % i) (sym e) ∙ at (s - b) (omega arith)) (M.all h (b % i + (s - b)) (omega arith) (omega arith)));
      old = λ q e. stays q (L.old q e);
      only = λ q e. by_run q
          (λ u v.
          let w : b % i + (q - b % i) ≡ q = omega arith in
          inr (b + (q - b % i), omega arith, omega arith, at (q - b % i) (omega arith) ∙ w))
          (λ o. ⊎_elim (λ v. inl v) (λ v. inr (v.0, v.1, omega (arith, v.2), v.3)) (L.only q (sym (M.rest q o) ∙ e)));
    }
  where
    -- the place of the slot d later
    at : (d : ℕ) → d < r → (b + d) % i ≡ b % i + d
    at d k = sym (mod-add-mod b i d) ∙ mod-eq_of_lt (omega arith)

    -- a place of the run, or another
    by_run : {P : Type 0} (q : ℕ) → (b % i ≤ q → q < b % i + r → P) → (((b % i ≤ q) × (q < b % i + r) → ⊥) → P) → P
    by_run q f g = by_lt q (b % i) (λ u. g (λ w. omega (arith, w))) (λ u. by_lt q (b % i + r) (λ v. f u v) (λ v. g (λ w. omega (arith, w))))

    stays : (q : ℕ) → bit ys q ≡ 1 → bit zs q ≡ 1
    stays q e = by_run q (λ u v. M.all h q u v) (λ o. M.rest q o ∙ e)

module _ (fs : List Flow) (gs : List Grant) (i : ℕ) where
  -- no grant
  pub overlaid_none : (bs : List ℕ) → Unmarked bs → Overlaid fs gs 0 i bs
  overlaid_none bs u = record { all = λ k s h. absurd (omega arith); only = λ p e. absurd (omega (arith, u p)) }

  -- one grant more
  pub overlaid_next : (n : ℕ) (g : Grant) (m : ℕ) (xs ys : List ℕ) → g ≡ nth gs n → m ≡ slots fs g → Overlaid fs gs n i xs → Laid xs i g.start (g.start + m) ys → Overlaid fs gs (n + 1) i ys
  overlaid_next n g m xs ys u q O L =
      record {
        all = λ k s h w. by_eq k n (λ e. let v = rw (e, ← u, ← q) at w in L.all s v.0 v.1) (λ o. L.old (s % i) (O.all k s (omega arith) w));
        only = λ p e.
            ⊎_elim (λ v. let w = O.only p v in (w.0, w.1, omega (arith, w.2), w.3, w.4)) (λ v. (n, v.0, omega arith, rw (← u, ← q) (v.1, v.2), v.3)) (L.only p e);
      }
