-- What stands at the front of a run: nothing, an item and the rest behind it, or a broken one. Assumes nothing.
use Rattle.std.proofs.Common.{◌≡◌, refl, ap, List, [], ◌∷◌, ◌++◌, ℕ, zero, suc, ◌≤◌, ◌<◌, arith, length, take, drop, length-append, length-drop, le-leb}
use Rattle.std.proofs.Math.Seq.{take-append_seam, drop-append_seam}
use borrow.Author.Tests.{lt-leb}
use Rattle.settings.specs.Runs.{Item, holds, broken, first_items, items}

-- a run has no more items than bytes
enough : (n m : ℕ) (s : List ℕ) → length s ≤ n → length s ≤ m → first_items n s ≡ first_items m s
unfolding first_items
enough zero zero s h k = refl
enough zero (suc m) [] h k = refl
enough zero (suc m) (t ∷ s) h k = absurd (omega (arith, h))
enough (suc n) zero [] h k = refl
enough (suc n) zero (t ∷ s) h k = absurd (omega (arith, k))
enough (suc n) (suc m) [] h k = refl
enough (suc n) (suc m) (t ∷ []) h k = refl
enough (suc n) (suc m) (t ∷ z ∷ s) h k =
    rw (enough n m (drop z s) (omega (arith, h, length-drop z s)) (omega (arith, k, length-drop z s)))

pub items-none : items [] ≡ []
unfolding items first_items
items-none = refl

-- one byte is left
pub items-odd : (t : ℕ) → items (t ∷ []) ≡ broken ∷ []
unfolding items first_items
items-odd t = refl

module _ (t z : ℕ) (s : List ℕ) where
  -- the length is that of bytes which are there
  pub items-holds : z ≤ length s → items (t ∷ z ∷ s) ≡ holds t (take z s) ∷ items (drop z s)
  unfolding items first_items
  items-holds h =
      rw (le-leb z (length s) h) (ap (λ (is : List Item). holds t (take z s) ∷ is) (enough (suc (length s)) (length (drop z s)) (drop z s) (omega (arith, length-drop z s)) (omega arith)))

  -- or goes past the end
  pub items-past : length s < z → items (t ∷ z ∷ s) ≡ broken ∷ []
  unfolding items first_items
  items-past h = rw (lt-leb z (length s) h)

-- an item that is written in front of a run
pub items_front : (t : ℕ) (v s : List ℕ) → items (t ∷ length v ∷ (v ++ s)) ≡ holds t v ∷ items s
items_front t v s =
    rw (items-holds t (length v) (v ++ s) (omega (arith, length-append v s)), take-append_seam v s, drop-append_seam v s)
