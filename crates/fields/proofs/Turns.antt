-- What one turn of each loop over widths and values does. Assumes nothing.
use mathlib.Core.Path.{◌≡◌, refl, ap, ap₂, ◌∙◌}
use mathlib.Core.Bool.{true, false}
use mathlib.Core.List.{List, [], ◌∷◌}
use mathlib.Core.Logic.{◌⊎◌}
use Prim.Native.Nat.{ℕ, suc, ◌+◌, ◌*◌, ◌/◌, ◌%◌, ◌^◌, ◌≤◌, ◌<◌}
use native.Mathlib.Nat.{le_refl, one-mul}
use native.Mathlib.Numerals.{add-one}
use native.Mathlib.Omega.{arith}
use lib.Dec.{lit<}
use lib.ListN.{length, get_or, drop, set}
use lib.Seq.{drop-cons, get_or-set_same, drop-set-lt, lt-length-set}
use lib.Pow as P
use lib.Pow.{pow_pos, shr-shr}
use borrow.Author.Tests.{lt-ltb, le-ltb}
use Rattle.fields.specs.Packed.{total, join_from, join, split, eights, Fit, fits}
use Rattle.fields.proofs.Packed.{join-lt, joined-le, fit_bytes, total-eights, length-eights, at-eights}

-- ---- joining, from the first value

pub join_end : (n : ℕ) (ws vs : List ℕ) → (length ws ≡ 0) ⊎ (length vs ≡ 0) → join_from n ws vs ≡ n
unfolding join_from
join_end n [] vs h = refl
join_end n (w ∷ ws) [] h = refl
join_end n (w ∷ ws) (v ∷ vs) h = absurd (omega arith)

-- the number n grew by a value v of width w, fits 64 bits still, and the values us that are left, of widths xs, make j behind it
abbrev pub JoinTurn : ℕ → ℕ → ℕ → List ℕ → List ℕ → ℕ → Type 0
JoinTurn n w v xs us j = (n * 2 ^ w + v < 2 ^ 64) × (join_from (n * 2 ^ w + v) xs us ≡ j)

pub join_turn : (ws vs : List ℕ) (n w v : ℕ) (xs us : List ℕ) → Fit ws vs → total ws ≤ 64
    → join_from n (w ∷ xs) (v ∷ us) ≡ join ws vs → JoinTurn n w v xs us (join ws vs)
unfolding join_from
join_turn ws vs n w v xs us fit short inv =
    let below : join ws vs < 2 ^ total ws = join-lt ws vs fit in
    let room : 2 ^ total ws ≤ 2 ^ 64 = P.pow_mono {j = 64} short in
    let le : n * 2 ^ w + v ≤ join_from (n * 2 ^ w + v) xs us = joined-le (n * 2 ^ w + v) xs us in
    (omega (arith, inv), inv)

-- the same over bytes, at byte i
pub byte_turn : (s : List ℕ) (n i : ℕ) → ((j : ℕ) → get_or s j 0 < 256) → length s ≤ 8 → i < length s
    → join_from n (drop i (eights (length s))) (drop i s) ≡ join (eights (length s)) s
    → JoinTurn n 8 (get_or s i 0) (drop (i + 1) (eights (length s))) (drop (i + 1) s) (join (eights (length s)) s)
byte_turn s n i bytes short h inv =
    let front : drop i (eights (length s)) ≡ 8 ∷ drop (i + 1) (eights (length s)) =
    drop-cons (eights (length s)) i 0 (omega (arith, length-eights (length s))) ∙ rw (at-eights (length s) i h, add-one) in
    let first : drop i s ≡ get_or s i 0 ∷ drop (i + 1) s = drop-cons s i 0 h ∙ rw add-one in
    join_turn (eights (length s)) s n 8 (get_or s i 0) (drop (i + 1) (eights (length s))) (drop (i + 1) s) (fit_bytes s bytes) (omega (arith, total-eights (length s)))
    (rw (front, first) at inv)

-- ---- splitting, from the last value

-- `1 << w`
pub one_shl : (w : ℕ) → w < 64 → 1 * 2 ^ w % 2 ^ 64 ≡ 2 ^ w
one_shl w h = P.shl_exact {a = 1} 1 w 64 (lit< tt) (omega arith) ∙ one-mul (2 ^ w)

pub split_turn : (n : ℕ) (ws vs : List ℕ) (left j k : ℕ) → suc j ≡ k → j < length ws → j < length vs
    → left ≡ n / 2 ^ total (drop k ws) → drop k vs ≡ split (drop k ws) n
    → (left / 2 ^ get_or ws j 0 ≡ n / 2 ^ total (drop j ws)) × (drop j (set vs j (left % 2 ^ get_or ws j 0)) ≡ split (drop j ws) n)
unfolding total split
split_turn n ws vs left j k e hw hv el es =
    let w : ℕ = get_or ws j 0 in
    let el' : left ≡ n / 2 ^ total (drop (suc j) ws) = rw e el in
    let es' : drop (suc j) vs ≡ split (drop (suc j) ws) n = rw e es in
    let stored : drop j (set vs j (left % 2 ^ w)) ≡ left % 2 ^ w ∷ drop (suc j) vs =
    drop-cons (set vs j (left % 2 ^ w)) j 0 (lt-length-set vs j (left % 2 ^ w) hv)
    ∙ ap₂ (λ (x : ℕ) (xs : List ℕ). x ∷ xs) (get_or-set_same vs j (left % 2 ^ w) 0 hv) (drop-set-lt (suc j) vs j (left % 2 ^ w) (le_refl (suc j))) in (
      rw (drop-cons ws j 0) (ap (λ (x : ℕ). x / 2 ^ w) el' ∙ shr-shr n (total (drop (suc j) ws)) w),
      rw (drop-cons ws j 0) (stored ∙ ap₂ (λ (x : ℕ) (xs : List ℕ). x % 2 ^ w ∷ xs) el' es'),
    )

-- the same over bytes
pub split_byte : (n : ℕ) (len : ℕ) (vs : List ℕ) (left j k : ℕ) → suc j ≡ k → j < len → length vs ≡ len
    → left ≡ n / 2 ^ total (drop k (eights len)) → drop k vs ≡ split (drop k (eights len)) n
    → (left / 256 ≡ n / 2 ^ total (drop j (eights len))) × (drop j (set vs j (left % 256)) ≡ split (drop j (eights len)) n)
split_byte n len vs left j k e h l el es =
    rw (at-eights len j h) at (split_turn n (eights len) vs left j k e (omega (arith, length-eights len)) (omega arith) el es)

-- ---- whether the values fit, from the first

module _ (w v : ℕ) (ws vs : List ℕ) where
  pub fits-step : v < 2 ^ w → fits (w ∷ ws) (v ∷ vs) ≡ fits ws vs
  unfolding fits
  fits-step l = rw (lt-ltb v (2 ^ w) l)

  pub fits_stop : 2 ^ w ≤ v → fits (w ∷ ws) (v ∷ vs) ≡ false
  unfolding fits
  fits_stop l = rw (le-ltb v (2 ^ w) l)

pub fits_end : (ws vs : List ℕ) → length ws ≡ length vs → (length ws ≡ 0) ⊎ (length vs ≡ 0) → fits ws vs ≡ true
unfolding fits
fits_end [] [] e h = refl
fits_end [] (v ∷ vs) e h = absurd (omega arith)
fits_end (w ∷ ws) vs e h = absurd (omega arith)
