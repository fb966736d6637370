-- Entries that are had one by one, by their index. Assumes nothing.
use mathlib.Core.Path.{◌≡◌, sym, ap, ◌∙◌}
use mathlib.Core.List.{List, [], ◌∷◌}
use Prim.Native.Nat.{ℕ, zero, suc, ◌+◌, ◌<◌}
use native.Mathlib.Numerals.{add-one}
use native.Mathlib.Omega.{arith}
use lib.ListN.{length, get_or, set, drop}
use lib.Seq.{drop-cons, get_or-set_same, get_or-set_other}
use Rattle.logic.proofs.Tests.{by_eq}

-- entry i and those after it
pub opens : {A : Type 0} (xs : List A) (d x : A) (i : ℕ) → i < length xs → x ≡ get_or xs i d → drop i xs ≡ x ∷ drop (i + 1) xs
opens xs d x i h e = rw (add-one, e) (drop-cons xs i d h)

-- one entry more is set to v
pub filled_next : (xs : List ℕ) (k v : ℕ) → k < length xs → ((j : ℕ) → j < k → get_or xs j 0 ≡ v) → (j : ℕ) → j < k + 1 → get_or (set xs k v) j 0 ≡ v
filled_next xs k v l a j h = by_eq j k (λ e. rw e (get_or-set_same xs k v 0 l)) (λ n. rw (get_or-set_other xs k j v 0 n) (a j (omega arith)))

-- n entries from index i on, whichever way they are written down
module _ {ℓ} {A : Type ℓ} (at : ℕ → A) (from : ℕ → ℕ → List A)
    (none : (i : ℕ) → from i 0 ≡ []) (next : (i n : ℕ) → from i (suc n) ≡ at i ∷ from (suc i) n) where
  pub length_from : (i n : ℕ) → length (from i n) ≡ n
  length_from i zero = rw (none i)
  length_from i (suc n) = rw (next i n) (ap suc (length_from (suc i) n))

  pub at_from : (d : A) (i n j : ℕ) → j < n → get_or (from i n) j d ≡ at (i + j)
  at_from d i zero j h = absurd (omega arith)
  at_from d i (suc n) zero h = let e : i ≡ i + 0 = omega arith in rw (next i n) (ap at e)
  at_from d i (suc n) (suc j) h =
      let e : suc i + j ≡ i + suc j = omega arith in
      rw (next i n) (at_from d (suc i) n j (omega arith) ∙ ap at e)

  -- what is had at index i is entry i of all n
  pub entry_is : (d : A) (n i : ℕ) (x : A) → i < n → x ≡ at i → x ≡ get_or (from 0 n) i d
  entry_is d n i x h e = let z : i ≡ 0 + i = omega arith in e ∙ ap at z ∙ sym (at_from d 0 n i h)
