-- The place of the highest one bit of how often the base goes into the interval is the power of the rounded interval. Assumes nothing.
use Rattle.std.proofs.Common.{◌≡◌, sym, ap, ◌∙◌, ℕ, zero, suc, ◌-◌, ◌*◌, ◌/◌, ◌%◌, ◌^◌, ◌≤◌, ◌<◌, mod-lt, mod-eq_of_lt, mul_comm, mul-le-mul_left, arith, div-add-mod'}
use Rattle.std.proofs.Math.Nat.{div-zero}
use lib.Count.{count_leading_zeros, leading_top}
use Rattle.logic.proofs.Tests.{by_lt}
use Rattle.bases.specs.Rounding.{rounded}
use Rattle.bases.proofs.Largest.{power_largest, rounded_is, rounded-none, rounded-zero}

-- a base that does not go into the interval is 0 or above it
pub goes_never : (c x : ℕ) → x / c ≡ 0 → 0 ≡ rounded c x
goes_never zero x e = sym (rounded-zero x)
goes_never (suc b) x e =
    let c = suc b in
    let pos : 0 < c = omega arith in
    omega (arith, rounded-none c x (omega (arith, div-add-mod' x c, ap (λ (n : ℕ). n * c) e, mod-lt x pos)))

-- one that goes into it
module _ (c x : ℕ) (some : 0 < x / c) (small : x < 65536) where
  pos : 0 < c
  pos = by_lt 0 c (λ h. h) (λ h. let z : c ≡ 0 = omega (arith, h) in absurd (omega (arith, ap (λ (n : ℕ). x / n) z, div-zero x, some)))

  -- the place of the highest one bit of how often it does
  abbrev place : ℕ
  place = 15 - count_leading_zeros 16 (x / c)

  -- which is a number of 16 bits
  small_times : x / c < 65536
  small_times = omega (arith, small, div-add-mod' x c, mul_comm (x / c) c, mul-le-mul_left (x / c) pos)

  -- that bit is there
  pub bit_there : count_leading_zeros 16 (x / c) ≤ 15
  bit_there = omega (arith, (leading_top 16 (x / c) some small_times).1)

  -- it is the highest
  highest : (2 ^ place ≤ x / c) × (x / c < 2 ^ suc place)
  highest =
      let top = leading_top 16 (x / c) some small_times in
      let is : place ≡ top.0 = omega (arith, top.1) in
      rw is (top.2, top.3)

  -- the base times its power is the rounded interval, and no bit of it is lost
  pub bit_rounded : c * 2 ^ place % 65536 ≡ rounded c x
  bit_rounded =
      let below : c * 2 ^ place ≤ x = omega (arith, mul-le-mul_left c highest.0, mul_comm (x / c) c, div-add-mod' x c) in
      let above : x < c * 2 ^ suc place = omega (arith, mul-le-mul_left c highest.1, mul_comm (suc (x / c)) c, div-add-mod' x c, mod-lt x pos) in
      mod-eq_of_lt (omega (arith, below, small)) ∙ sym (rounded_is c x (c * 2 ^ place) pos (power_largest c x place below above))
