-- The bits of a byte: those of a run of ones, and of two bytes joined. Assumes nothing.
use mathlib.Core.Path.{◌≡◌, refl, ap, ◌∙◌}
use mathlib.Core.Bool.{Bool, true, cond, ◌&&◌}
use Prim.Native.Nat.{ℕ, zero, suc, ◌+◌, ◌*◌, ◌/◌, ◌%◌, ◌^◌, ◌<◌, ◌≤◌, ◌-◌}
use native.Mathlib.Omega.{arith}
use lib.Bits.{bit_or, or_shr, or_mod, or_zero_l, or_zero_r, or_self}
use lib.Dec.{leb, ltb, eqb}
use borrow.Author.Tests.{eqb-true, leb-true, ltb-true, lt-ltb, le-leb, le-ltb, lt-leb}
use Rattle.logic.proofs.Tests.{by_lt, by_eq, and_both}

-- every number below n passes
unfoldable pub below : ℕ → (ℕ → Bool) → Bool
below zero ok = true
below (suc n) ok = ok n && below n ok

pub below_each : (n : ℕ) (ok : ℕ → Bool) → below n ok ≡ true → (k : ℕ) → k < n → ok k ≡ true
unfolding below
below_each zero ok e k h = absurd (omega arith)
below_each (suc n) ok e k h =
    let both = and_both (ok n) (below n ok) e in
    by_eq k n (λ u. rw u both.0) (λ u. below_each n ok both.1 k (omega arith))

-- m ones from bit b on, as 16 bits
abbrev pub ones : ℕ → ℕ → ℕ
ones b m = (1 * 2 ^ m % 65536 - 1) * 2 ^ b % 65536

-- from 2 ^ m one can be taken
pub ones_some : (m : ℕ) → m ≤ 8 → 1 ≤ 1 * 2 ^ m % 65536
unfolding below
ones_some m h = leb-true 1 _ (below_each 9 (λ m. leb 1 (1 * 2 ^ m % 65536)) refl m (omega arith))

-- they are a byte
pub ones_byte : (b m : ℕ) → b < 8 → m ≤ 8 - b → ones b m < 256
unfolding below
ones_byte b m h k =
    ltb-true (ones b m) 256
    (below_each (9 - b) (λ m. ltb (ones b m) 256) (below_each 8 (λ b. below (9 - b) (λ m. ltb (ones b m) 256)) refl b h) m (omega arith))

-- and these are its bits
pub ones_bit : (b m k : ℕ) → b < 8 → m ≤ 8 - b → k < 8 → ones b m / 2 ^ k % 2 ≡ cond (leb b k && ltb k (b + m)) 1 0
unfolding below
ones_bit b m k h l j =
    let ok : ℕ → ℕ → ℕ → Bool = λ b m k. eqb (ones b m / 2 ^ k % 2) (cond (leb b k && ltb k (b + m)) 1 0) in
    eqb-true _ _ (below_each 8 (ok b m) (below_each (9 - b) (λ m. below 8 (ok b m)) (below_each 8 (λ b. below (9 - b) (λ m. below 8 (ok b m))) refl b h) m (omega arith)) k j)

-- a bit of two bytes joined
joined : (a b k : ℕ) → bit_or a b / 2 ^ k % 2 ≡ bit_or (a / 2 ^ k % 2) (b / 2 ^ k % 2)
joined a b k = ap (λ (n : ℕ). n % 2) (or_shr a b k) ∙ or_mod (a / 2 ^ k) (b / 2 ^ k) 1

-- no number of a range
outside : (a k e : ℕ) → ((a ≤ k) × (k < e) → ⊥) → ◌≡◌ {A = ℕ} (cond (leb a k && ltb k e) 1 0) 0
outside a k e o =
    by_lt k a (λ h. rw (lt-leb a k h)) (λ h. let l : e ≤ k = by_lt k e (λ j. absurd (o (h, j))) (λ j. j) in rw (le-leb a k h, le-ltb k e l))

module _ (n b m k : ℕ) (h : b < 8) (l : m ≤ 8 - b) (j : k < 8) where
  -- one of the run
  pub bit_of_run : b ≤ k → k < b + m → bit_or n (ones b m) / 2 ^ k % 2 ≡ 1
  bit_of_run p q =
      let one : ones b m / 2 ^ k % 2 ≡ 1 = ones_bit b m k h l j ∙ rw (le-leb b k p, lt-ltb k (b + m) q) in
      joined n (ones b m) k
      ∙ rw one
      (by_eq (n / 2 ^ k % 2) 1 (λ e. rw e (or_self 1)) (λ e. let z : n / 2 ^ k % 2 ≡ 0 = omega arith in rw z (or_zero_l 1)))

  -- any other
  pub bit_of_rest : ((b ≤ k) × (k < b + m) → ⊥) → bit_or n (ones b m) / 2 ^ k % 2 ≡ n / 2 ^ k % 2
  bit_of_rest o =
      let none : ones b m / 2 ^ k % 2 ≡ 0 = ones_bit b m k h l j ∙ outside b k (b + m) o in
      joined n (ones b m) k ∙ rw none (or_zero_r (n / 2 ^ k % 2))
