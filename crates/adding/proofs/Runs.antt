-- Runs of free places, and the first that is long enough. Assumes nothing.
use Rattle.std.proofs.Common.{◌≡◌, refl, sym, ap, ◌∙◌, true, false, not, List, ℕ, zero, suc, ◌+◌, ◌≤◌, ◌<◌, arith, eqb, le-leb, Some, None}
use mathlib.Core.Bool.{and-false}
use borrow.Author.Tests.{lt-leb}
use Rattle.logic.proofs.Tests.{by_test, by_lt, by_eq, true-not-false}
use Rattle.marks.specs.Marks.{marked, Alike}
use Rattle.offsets.proofs.Smallest.{smallest_exactly, none_exactly}
use Rattle.adding.specs.Parts.{free_from, run_at, first_run}

module _ (bs : List ℕ) where
  -- places that are all free
  pub all-free : (p n : ℕ) → ((q : ℕ) → p ≤ q → q < p + n → marked bs q ≡ false) → free_from bs p n ≡ true
  unfolding free_from
  all-free p zero h = refl
  all-free p (suc n) h = rw (h p (omega arith) (omega arith)) (all-free (suc p) n (λ q a b. h q (omega arith) (omega arith)))

  -- one of them that is taken
  pub one_taken : (p n q : ℕ) → p ≤ q → q < p + n → marked bs q ≡ true → free_from bs p n ≡ false
  unfolding free_from
  one_taken p zero q a b t = absurd (omega arith)
  one_taken p (suc n) q a b t =
      by_eq q p (λ e. rw (rw e at t)) (λ o. rw (one_taken (suc p) n q (omega arith) (omega arith) t) (and-false (not (marked bs p))))

  -- where not all are free one is taken
  pub some_taken : (p n : ℕ) → free_from bs p n ≡ false → (q : ℕ) × (p ≤ q) × (q < p + n) × (marked bs q ≡ true)
  unfolding free_from
  some_taken p zero e = true-not-false e
  some_taken p (suc n) e =
      by_test (marked bs p) (λ t. (p, omega arith, omega arith, t))
      (λ t. let y = some_taken (suc p) n (rw t at e) in (y.0, omega (arith, y.1), omega (arith, y.2), y.3))

  module _ (n i : ℕ) where
    -- the run would end behind the interval
    pub run_late : (o : ℕ) → i < o + n → run_at bs n i o ≡ false
    run_late o h = rw (lt-leb (o + n) i h)

    -- it ends in it
    pub run_inside : (o : ℕ) → o + n ≤ i → run_at bs n i o ≡ free_from bs o n
    run_inside o h = rw (le-leb (o + n) i h)

    -- one of its places is taken
    run_fails : (o q : ℕ) → o ≤ q → q < o + n → marked bs q ≡ true → run_at bs n i o ≡ false
    run_fails o q a b t = by_lt i (o + n) (run_late o) (λ h. run_inside o h ∙ one_taken o n q a b t)

-- the places from o up to p are free, and no run starts before o
pub record Run (bs : List ℕ) (n i o p : ℕ) : Type 0 where
  pub low : o ≤ p
  pub clear : (q : ℕ) → o ≤ q → q < p → marked bs q ≡ false
  pub first : (j : ℕ) → j < o → run_at bs n i j ≡ false

module _ (bs : List ℕ) (n i : ℕ) where
  module _ (o p : ℕ) (R : Run bs n i o p) where
    -- the run is long enough
    pub run_found : 0 < n → o + n ≤ i → o + n ≤ p → Some o ≡ first_run bs n i
    run_found z h k =
        let free = all-free bs o n (λ q a b. R.clear q a (omega arith)) in
        sym ((smallest_exactly (run_at bs n i) i o).1 (omega arith, run_inside bs n i o h ∙ free, R.first))

    -- none that ends in the interval is left
    pub run_end : i < o + n → None ≡ first_run bs n i
    run_end h = sym ((none_exactly (run_at bs n i) i).1 (λ j k. by_lt j o (R.first j) (λ l. run_late bs n i j (omega arith))))

    -- m places more, all taken: a run starts behind them
    pub run_taken : (m : ℕ) → Alike bs p m → 0 < n → p < o + n → marked bs p ≡ true → Run bs n i (p + m) (p + m)
    run_taken m A z short t =
        record {
          low = omega arith;
          clear = λ q a b. absurd (omega arith);
          first = λ j a. by_lt j o (R.first j) (λ l. by_lt p j (λ k. run_fails bs n i j j (omega arith) (omega arith) (taken j (omega arith) (omega arith))) (λ k. run_fails bs n i j p k (omega arith) t));
        }
      where
        taken : (q : ℕ) → p ≤ q → q < p + m → marked bs q ≡ true
        taken q low high = ap (λ (x : ℕ). eqb x 1) (A.same q low high) ∙ t
