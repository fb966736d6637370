-- Marking a run of numbers, and numbers that are alike. Assumes nothing.
use mathlib.Core.Path.{◌≡◌, refl, sym, ◌∙◌}
use mathlib.Core.Bool.{true, ◌&&◌, ◌||◌}
use mathlib.Core.List.{List}
use Prim.Native.Nat.{ℕ, ◌-◌, ◌/◌, ◌%◌, ◌^◌, ◌≤◌, ◌<◌}
use native.Mathlib.Omega.{arith}
use native.Mathlib.Nat.{zero-div, mod-lt}
use lib.Bits.{bit_or}
use lib.Dec.{lit<, eqb}
use lib.ListN.{length, get_or, set, replicate, length-replicate, get_or-replicate, get_or-eq_default}
use lib.Seq.{get_or-set_same, get_or-set_other}
use borrow.Author.Tests.{eqb-true}
use Rattle.logic.proofs.Tests.{by_test, by_lt, by_eq, and_both}
use Rattle.marks.specs.Marks.{bit, Alike, Marks}
use Rattle.marks.proofs.Bits.{below, below_each, ones, bit_of_run, bit_of_rest}

-- a number without a bit is not marked
pub none_beyond : (xs : List ℕ) (x : ℕ) → length xs ≤ x / 8 → bit xs x ≡ 0
none_beyond xs x h = rw (get_or-eq_default xs 0 h, zero-div (2 ^ (x % 8)))

-- nor is any where all bytes are 0
pub none-marked : (n x : ℕ) → bit (replicate n 0) x ≡ 0
none-marked n x = by_lt (x / 8) n (λ h. rw (get_or-replicate {A = ℕ} n (x / 8) 0 0 h, zero-div (2 ^ (x % 8)))) (λ h. none_beyond (replicate n 0) x (rw (length-replicate {A = ℕ} n 0) h))

-- the byte of a run is joined with its ones
pub marks_run : (xs : List ℕ) (x r : ℕ) → x / 8 < length xs → r ≤ 8 - x % 8 → Marks xs x r (set xs (x / 8) (bit_or (get_or xs (x / 8) 0) (ones (x % 8) r)))
marks_run xs x r h few =
    record {
      all = λ _ y a b.
          let u : y / 8 ≡ x / 8 = omega arith in
          rw (u, same) (bit_of_run n (x % 8) r (y % 8) (mod-lt x (lit< tt)) few (mod-lt y (lit< tt)) (omega arith) (omega arith));
      rest = λ y o. by_eq (y / 8) (x / 8)
          (λ u. rw (u, same) (bit_of_rest n (x % 8) r (y % 8) (mod-lt x (lit< tt)) few (mod-lt y (lit< tt)) (λ w. o (omega (arith, w)))))
          (λ u. rw (get_or-set_other xs (x / 8) (y / 8) (bit_or n (ones (x % 8) r)) 0 u));
      beyond = λ l. absurd (omega arith);
    }
  where
    n : ℕ
    n = get_or xs (x / 8) 0

    same : get_or (set xs (x / 8) (bit_or n (ones (x % 8) r))) (x / 8) 0 ≡ bit_or n (ones (x % 8) r)
    same = get_or-set_same xs (x / 8) (bit_or n (ones (x % 8) r)) 0 h

-- one number
pub alike-one : (bs : List ℕ) (x : ℕ) → Alike bs x 1
alike-one bs x = record { some = omega arith; few = omega arith; same = λ y a b. let e : y ≡ x = omega arith in rw e }

-- every bit of 255 is 1
full : (k : ℕ) → k < 8 → 255 / 2 ^ k % 2 ≡ 1
unfolding below
full k h = eqb-true _ 1 (below_each 8 (λ k. eqb (255 / 2 ^ k % 2) 1) refl k h)

-- a byte whose bits are all the same
module _ (bs : List ℕ) (x v : ℕ) (each : (k : ℕ) → k < 8 → get_or bs (x / 8) 0 / 2 ^ k % 2 ≡ v) (z : x % 8 ≡ 0) where
  alike_byte : Alike bs x 8
  alike_byte =
      record {
        some = omega arith;
        few = omega arith;
        same = λ y a b.
            let u : y / 8 ≡ x / 8 = omega arith in
            rw u (each (y % 8) (mod-lt y (lit< tt))) ∙ sym (each (x % 8) (mod-lt x (lit< tt)));
      }

pub alike-uniform : (bs : List ℕ) (x : ℕ) → (eqb (get_or bs (x / 8) 0) 0 || eqb (get_or bs (x / 8) 0) 255) && eqb (x % 8) 0 ≡ true → Alike bs x 8
alike-uniform bs x t =
    let n = get_or bs (x / 8) 0 in
    let both = and_both (eqb n 0 || eqb n 255) (eqb (x % 8) 0) t in
    let z = eqb-true (x % 8) 0 both.1 in
    by_test (eqb n 0) (λ e. alike_byte bs x 0 (λ k h. rw (eqb-true n 0 e, zero-div (2 ^ k))) z)
    (λ e. alike_byte bs x 1 (λ k h. rw (eqb-true n 255 (rw e at both.0)) (full k h)) z)
