-- The rounded interval is the largest base times a power of two not above the interval, and nothing else is. Assumes nothing.
use Rattle.std.proofs.Common.{◌≡◌, refl, sym, ap, ◌∙◌, Bool, cond, ℕ, zero, suc, ◌*◌, ◌^◌, ◌≤◌, ◌<◌, zero-mul, mul-one, mul_assoc, mul_comm, mul-le-mul_left, mul-le-mul_right, pow-suc, arith, pow_pos, pow_mono, le-leb}
use borrow.Author.Tests.{lt-leb}
use Rattle.logic.proofs.Tests.{by_lt}
use Rattle.bases.specs.Rounding.{largest_from, rounded}
use Rattle.bases.specs.Becomes.{Largest}

-- ---- a base times powers of two

module _ (c : ℕ) where
  -- the first is the base
  first_power : c * 2 ^ 0 ≡ c
  first_power = mul-one c

  -- each is twice the one before
  pub power_twice : (k : ℕ) → c * 2 ^ suc k ≡ 2 * (c * 2 ^ k)
  power_twice k = ap (λ (p : ℕ). c * p) (pow-suc 2 k) ∙ sym (mul_assoc c (2 ^ k) 2) ∙ mul_comm (c * 2 ^ k) 2

  -- and none is below an earlier one
  pub power_grows : (j k : ℕ) → j ≤ k → c * 2 ^ j ≤ c * 2 ^ k
  power_grows j k h = mul-le-mul_left c (pow_mono h)

  -- so none is below the base
  pub base_least : (k : ℕ) → c ≤ c * 2 ^ k
  base_least k = omega (arith, first_power, power_grows 0 k (omega arith))

-- 2 ^ x is over x
over : (x : ℕ) → x < 2 ^ x
over zero = pow_pos 0
over (suc x) = omega (arith, over x, pow-suc 2 x)

-- ---- the largest of them not above x

-- one that is not above x, where the next is, is the largest
pub power_largest : (c x k : ℕ) → c * 2 ^ k ≤ x → x < c * 2 ^ suc k → Largest c x (c * 2 ^ k)
power_largest c x k h l =
    record {
      power = k;
      times_power = refl;
      not_above = h;
      largest = λ j m. by_lt k j (λ a. absurd (omega (arith, m, l, power_grows c (suc k) j a))) (λ a. power_grows c j k a);
    }

-- there is one at most
pub largest-one : (c x y z : ℕ) → Largest c x y → Largest c x z → y ≡ z
largest-one c x y z a b =
    let up : y ≤ z = rw a.times_power (b.largest a.power (rw a.times_power at a.not_above)) in
    let down : z ≤ y = rw b.times_power (a.largest b.power (rw b.times_power at b.not_above)) in
    omega (arith, up, down)

-- it is not below the base
pub largest-reaches : (c x y : ℕ) → Largest c x y → c ≤ y
largest-reaches c x y l = omega (arith, base_least c l.power, l.times_power)

-- so neither is x
pub interval-reaches : (c x y : ℕ) → Largest c x y → c ≤ x
interval-reaches c x y l = omega (arith, largest-reaches c x y l, l.not_above)

-- and the next is above x
pub next-above : (c x y : ℕ) → 0 < c → (l : Largest c x y) → x < c * 2 ^ suc l.power
next-above c x y pos l =
    by_lt x (c * 2 ^ suc l.power) (λ h. h)
    (λ h. absurd (omega (arith, pos, l.largest (suc l.power) h, power_twice c l.power, base_least c l.power, l.times_power)))

-- ---- the rounded interval

module _ (k c x : ℕ) where
  -- a power that is not above x is found
  found : c * 2 ^ suc k ≤ x → largest_from (suc k) c x ≡ c * 2 ^ suc k
  unfolding largest_from
  found h = ap (λ (t : Bool). cond t (c * 2 ^ suc k) (largest_from k c x)) (le-leb (c * 2 ^ suc k) x h)

  -- one that is above it is passed over
  passed_over : x < c * 2 ^ suc k → largest_from (suc k) c x ≡ largest_from k c x
  unfolding largest_from
  passed_over h = ap (λ (t : Bool). cond t (c * 2 ^ suc k) (largest_from k c x)) (lt-leb (c * 2 ^ suc k) x h)

module _ (c x : ℕ) where
  -- last of all the base itself is found
  base_found : c ≤ x → largest_from 0 c x ≡ c * 2 ^ 0
  unfolding largest_from
  base_found h = ap (λ (t : Bool). cond t (c * 2 ^ 0) 0) (le-leb (c * 2 ^ 0) x (omega (arith, h, first_power c)))

  -- or nothing
  nothing_found : x < c → largest_from 0 c x ≡ 0
  unfolding largest_from
  nothing_found h = ap (λ (t : Bool). cond t (c * 2 ^ 0) 0) (lt-leb (c * 2 ^ 0) x (omega (arith, h, first_power c)))

-- from a power on whose next is above x, what is found is the largest
from-largest : (k c x : ℕ) → c ≤ x → x < c * 2 ^ suc k → Largest c x (largest_from k c x)
from-largest zero c x h l = rw (base_found c x h) (power_largest c x 0 (omega (arith, h, first_power c)) l)
from-largest (suc k) c x h l =
    by_lt x (c * 2 ^ suc k) (λ a. rw (passed_over k c x a) (from-largest k c x h a)) (λ a. rw (found k c x a) (power_largest c x (suc k) a l))

-- so it is the largest
pub rounded-largest : (c x : ℕ) → 0 < c → c ≤ x → Largest c x (rounded c x)
unfolding rounded
rounded-largest c x pos h = from-largest x c x h (omega (arith, over (suc x), mul-le-mul_right (2 ^ suc x) pos))

-- and nothing else is
pub rounded_is : (c x y : ℕ) → 0 < c → Largest c x y → rounded c x ≡ y
rounded_is c x y pos l = largest-one c x (rounded c x) y (rounded-largest c x pos (interval-reaches c x y l)) l

-- rounding less than halves the interval
pub less_than_twice : (c x : ℕ) → 0 < c → c ≤ x → x < 2 * rounded c x
less_than_twice c x pos h =
    let l = rounded-largest c x pos h in
    omega (arith, next-above c x (rounded c x) pos l, power_twice c l.power, l.times_power)

-- ---- where there is none

-- from any power on, for an interval below the base
from-none : (k c x : ℕ) → x < c → largest_from k c x ≡ 0
from-none zero c x h = nothing_found c x h
from-none (suc k) c x h = passed_over k c x (omega (arith, h, base_least c (suc k))) ∙ from-none k c x h

-- and for the base 0
from_zero : (k x : ℕ) → largest_from k 0 x ≡ 0
from_zero zero x = base_found 0 x (omega arith) ∙ zero-mul (2 ^ 0)
from_zero (suc k) x = found k 0 x (omega (arith, zero-mul (2 ^ suc k))) ∙ zero-mul (2 ^ suc k)

-- the interval is below the base
pub rounded-none : (c x : ℕ) → x < c → rounded c x ≡ 0
unfolding rounded
rounded-none c x h = from-none x c x h

-- or the base is 0
pub rounded-zero : (x : ℕ) → rounded 0 x ≡ 0
unfolding rounded
rounded-zero x = from_zero x x
