-- A run of records of one length, one behind the other, for any way to write an entry as bytes and to read it.
-- Assumes nothing.
use mathlib.Core.Path.{◌≡◌, refl, sym, ap, ◌∙◌}
use mathlib.Core.List.{List, [], ◌∷◌, ◌++◌}
use Prim.Native.Nat.{ℕ, zero, suc, ◌+◌, ◌*◌}
use native.Mathlib.Nat.{mul-suc, mul-zero}
use native.Mathlib.Omega.{arith}
use lib.ListN.{length, take, drop, length-append, length-drop, take-append-drop}
use lib.Seq.{take-nil, drop-nil, drop_at, take-append-add, drop-append-add}
use Rattle.logic.specs.Lists.{All}

-- the records of entries, one behind the other
abbrev pub run : {A : Type 0} → (A → List ℕ) → List A → List ℕ
run write [] = []
run write (x ∷ xs) = write x ++ run write xs

-- the entries of n records of k bytes each
abbrev pub entries : {A : Type 0} → ℕ → (List ℕ → A) → ℕ → List ℕ → List A
entries k read zero s = []
entries k read (suc n) s = read s ∷ entries k read n (drop k s)

-- each of n records of k bytes is written again as it was read
abbrev pub Again : {A : Type 0} → ℕ → (A → List ℕ) → (List ℕ → A) → ℕ → List ℕ → Type 0
Again k write read zero s = Unit
Again k write read (suc n) s = (write (read s) ≡ take k s) × Again k write read n (drop k s)

module _ {A : Type 0} (k : ℕ) (write : A → List ℕ) (size : (x : A) → length (write x) ≡ k) where
  pub length_run : (xs : List A) → length (run write xs) ≡ k * length xs
  length_run [] = sym (mul-zero k)
  length_run (x ∷ xs) = length-append (write x) (run write xs) ∙ omega (arith, size x, length_run xs, mul-suc k (length xs))

  behind : (x : A) (n : ℕ) → k * suc n ≡ length (write x) + k * n
  behind x n = omega (arith, size x, mul-suc k n)

  pub drop-run : (n : ℕ) (xs : List A) → drop (k * n) (run write xs) ≡ run write (drop n xs)
  drop-run zero xs = rw (mul-zero k)
  drop-run (suc n) [] = drop-nil (k * suc n)
  drop-run (suc n) (x ∷ xs) = rw (behind x n, drop-append-add (write x) (run write xs) (k * n)) (drop-run n xs)

  pub take-run : (n : ℕ) (xs : List A) → take (k * n) (run write xs) ≡ run write (take n xs)
  take-run zero xs = rw (mul-zero k)
  take-run (suc n) [] = take-nil (k * suc n)
  take-run (suc n) (x ∷ xs) = rw (behind x n, take-append-add (write x) (run write xs) (k * n)) (ap (λ (s : List ℕ). write x ++ s) (take-run n xs))

  module _ (read : List ℕ → A) where
    -- entries that are read back from their records, whatever stands behind them
    pub entries-run : (xs : List A) → All (λ x. (rest : List ℕ) → read (write x ++ rest) ≡ x) xs → entries k read (length xs) (run write xs) ≡ xs
    entries-run [] h = refl
    entries-run (x ∷ xs) h = rw (h.0 (run write xs), drop_at (write x) (run write xs) k (size x), entries-run xs h.1)

    pub run-entries : (n : ℕ) (s : List ℕ) → length s ≡ k * n → Again k write read n s → run write (entries k read n s) ≡ s
    run-entries zero [] l h = refl
    run-entries zero (x ∷ s) l h = absurd (omega (arith, mul-zero k))
    run-entries (suc n) s l h = rw (h.0, run-entries n (drop k s) (simp length-drop (omega (arith, mul-suc k n))) h.1) (take-append-drop k s)
