-- The smallest number that passes a test. Assumes nothing.
use Rattle.std.proofs.Common.{◌≡◌, refl, sym, ap, ◌∙◌, Bool, true, false, ◌↔◌, None, Some, ℕ, zero, suc, ◌+◌, ◌-◌, ◌≤◌, ◌<◌, arith}
use Rattle.logic.proofs.Tests.{by_test, by_order}
use Rattle.offsets.specs.Offsets.{smallest}

module _ (ok : ℕ → Bool) where
  -- numbers that fail are passed over
  smallest_skip : (o d n : ℕ) → d ≤ n → ((j : ℕ) → j < d → ok (o + j) ≡ false) → smallest ok o n ≡ smallest ok (o + d) (n - d)
  unfolding smallest
  smallest_skip o zero n h fails = let e : o + 0 ≡ o = omega arith in let k : n - 0 ≡ n = omega arith in rw (e, k)
  smallest_skip o (suc d) zero h fails = absurd (omega arith)
  smallest_skip o (suc d) (suc n) h fails =
      let here : o + 0 ≡ o = omega arith in
      let e : suc o + d ≡ o + suc d = omega arith in
      let k : suc n - suc d ≡ n - d = omega arith in
      let first : ok o ≡ false = ap ok (sym here) ∙ fails 0 (omega arith) in
      rw (first, k, ← e)
      (smallest_skip (suc o) d n (omega arith) (λ j l. let q : suc o + j ≡ o + suc j = omega arith in ap ok q ∙ fails (suc j) (omega arith)))

  -- what is found is in the range and passes, and none before it does
  found : (o n x : ℕ) → smallest ok o n ≡ Some x → (o ≤ x) × (x < o + n) × (ok x ≡ true) × ((j : ℕ) → o ≤ j → j < x → ok j ≡ false)
  unfolding smallest
  found o zero x e = let z : ◌≡◌ {A = ℕ} 0 1 = cc in absurd (omega arith)
  found o (suc n) x e =
      by_test (ok o)
      (λ t.
      let s : Some o ≡ Some x = rw t at e in
      let q : o ≡ x = cc in
      (omega arith, omega arith, ap ok (sym q) ∙ t, λ j a b. absurd (omega arith)))
      (λ t.
      let ih = found (suc o) n x (rw t at e) in
      (omega arith, omega arith, ih.2, λ j a b. by_order o j (λ l. ih.3 j l b) (λ q. ap ok (sym q) ∙ t) (λ l. absurd (omega arith))))

  -- where none is found all fail
  all_fail : (o n : ℕ) → smallest ok o n ≡ None → (j : ℕ) → o ≤ j → j < o + n → ok j ≡ false
  unfolding smallest
  all_fail o zero e j a b = absurd (omega arith)
  all_fail o (suc n) e j a b =
      by_test (ok o) (λ t. let s : Some o ≡ None = rw t at e in let z : ◌≡◌ {A = ℕ} 0 1 = cc in absurd (omega arith))
      (λ t. by_order o j (λ l. all_fail (suc o) n (rw t at e) j l (omega arith)) (λ q. ap ok (sym q) ∙ t) (λ l. absurd (omega arith)))

  -- from 0 on, numbers that fail are passed over
  skip : (d n : ℕ) → d ≤ n → ((j : ℕ) → j < d → ok j ≡ false) → smallest ok 0 n ≡ smallest ok d (n - d)
  skip d n h fails =
      let e : 0 + d ≡ d = omega arith in
      smallest_skip 0 d n h (λ j l. let q : 0 + j ≡ j = omega arith in ap ok q ∙ fails j l) ∙ ap (λ (x : ℕ). smallest ok x (n - d)) e

  -- the smallest of the first n numbers that pass
  pub smallest_exactly : (n o : ℕ) → (smallest ok 0 n ≡ Some o) ↔ ((o < n) × (ok o ≡ true) × ((j : ℕ) → j < o → ok j ≡ false))
  unfolding smallest
  smallest_exactly n o = (
    λ e. let y = found 0 n o e in (omega (arith, y.1), y.2, λ j l. y.3 j (omega arith) l),
    λ h. let k : n - o ≡ suc (n - suc o) = omega arith in skip o n (omega arith) h.2 ∙ rw (k, smallest) (rw h.1),
  )

  -- none of them passes
  pub none_exactly : (n : ℕ) → (smallest ok 0 n ≡ None) ↔ ((j : ℕ) → j < n → ok j ≡ false)
  unfolding smallest
  none_exactly n = (
    λ e j l. all_fail 0 n e j (omega arith) (omega arith),
    λ h. let k : n - n ≡ 0 = omega arith in skip n n (omega arith) h ∙ rw k,
  )

-- two tests that say the same have the same smallest number
pub smallest_same : (p q : ℕ → Bool) (o n : ℕ) → ((j : ℕ) → p j ≡ q j) → smallest p o n ≡ smallest q o n
unfolding smallest
smallest_same p q o zero h = refl
smallest_same p q o (suc n) h = rw (h o, smallest_same p q (suc o) n h)
