-- Cases by a test or an order, and tests joined by &&. Assumes nothing.
use mathlib.Core.Path.{◌≡◌, refl, sym, ◌∙◌}
use mathlib.Core.Bool.{Bool, true, false, not, ◌&&◌}
use Prim.Native.Nat.{ℕ, ◌≤◌, ◌<◌}
use native.Mathlib.Omega.{arith}
use lib.Dec.{leb, ltb, eqb}
use borrow.Author.Tests.{leb-true, leb-false, ltb-true, ltb-false, eqb-true, eqb-false, not-true, not-false}
use Rattle.logic.specs.Numbers.{among}

pub by_test {ℓ} : {P : Type ℓ} (b : Bool) → (b ≡ true → P) → (b ≡ false → P) → P
by_test true f g = f refl
by_test false f g = g refl

pub by_lt {ℓ} : {P : Type ℓ} (a b : ℕ) → (a < b → P) → (b ≤ a → P) → P
by_lt a b f g = by_test (ltb a b) (λ e. f (ltb-true a b e)) (λ e. g (ltb-false a b e))

-- three ways
pub by_order {ℓ} : {P : Type ℓ} (a b : ℕ) → (a < b → P) → (a ≡ b → P) → (b < a → P) → P
by_order a b f g h = by_lt a b f (λ p. by_lt b a h (λ q. g (omega arith)))

pub by_eq {ℓ} : {P : Type ℓ} (a b : ℕ) → (a ≡ b → P) → ((a ≡ b → ⊥) → P) → P
by_eq a b f g = by_test (eqb a b) (λ e. f (eqb-true a b e)) (λ e. g (eqb-false a b e))

-- no test is both
pub true-not-false {ℓ} : {P : Type ℓ} → true ≡ false → P
true-not-false e = let z : ◌≡◌ {A = ℕ} 0 1 = cc in absurd (omega arith)

-- both tests, and each of them
pub and_both : (a b : Bool) → a && b ≡ true → (a ≡ true) × (b ≡ true)
and_both true b e = (refl, e)
and_both false b e = true-not-false (cc)

pub both_and : (a b : Bool) → a ≡ true → b ≡ true → a && b ≡ true
both_and a b p q = rw (p, q)

-- a number of a range, as orders
pub among_both : (a b x : ℕ) → among a b x ≡ true → (a ≤ x) × (x ≤ b)
among_both a b x h =
    let both = and_both (leb a x) (leb x b) h in
    (leb-true a x both.0, leb-true x b both.1)

-- what the answer r to "a is at most b" tells where the code asks `!r`
module _ (a b : ℕ) (r : Bool) (e : r ≡ leb a b) where
  pub not_above : not r ≡ false → a ≤ b
  not_above h = leb-true a b (sym e ∙ not-false r h)

  pub above : not r ≡ true → b < a
  above h = leb-false a b (sym e ∙ not-true r h)
