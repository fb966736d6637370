-- The laws of packed numbers, for every list of widths: the values come back from the number, the number from the values.
-- Assumes nothing.
use mathlib.Core.Path.{◌≡◌, refl, sym, ap, ap₂, ◌∙◌, subst}
use mathlib.Core.Bool.{true}
use mathlib.Core.List.{List, [], ◌∷◌}
use Prim.Native.Nat.{ℕ, zero, suc, ◌+◌, ◌*◌, ◌/◌, ◌%◌, ◌^◌, ◌≤◌, ◌<◌}
use native.Mathlib.Nat.{div-one, div-eq_of_lt, div-lt_iff_lt-mul, mod-lt, le_trans, le_refl, mul-le-mul_left, one-mul, not-suc-le-zero, le_of_suc-le-suc}
use native.Mathlib.Omega.{arith}
use lib.Dec.{ltb}
use lib.ListN.{length, get_or, drop, drop_of_length-le}
use lib.Pow as P
use lib.Pow.{pow_pos, shr-shr, high, low}
use borrow.Author.Tests.{lt-ltb, ltb-true}
use Rattle.logic.proofs.Tests.{and_both, true-not-false}
use Rattle.fields.specs.Packed.{total, join_from, join, split, eights, pack, unpack, Fit, fits}

-- what stands before the values
pub before : (n : ℕ) (ws vs : List ℕ) → Fit ws vs → join_from n ws vs / 2 ^ total ws ≡ n
unfolding join_from total
before n [] [] h = div-one n
before n [] (v ∷ vs) h = absurd h
before n (w ∷ ws) [] h = absurd h
before n (w ∷ ws) (v ∷ vs) h =
    sym (shr-shr (join_from (n * 2 ^ w + v) ws vs) (total ws) w)
    ∙ ap (λ (x : ℕ). x / 2 ^ w) (before (n * 2 ^ w + v) ws vs h.1)
    ∙ high n w h.0

-- the values come back, whatever stands before them
pub split-join : (n : ℕ) (ws vs : List ℕ) → Fit ws vs → split ws (join_from n ws vs) ≡ vs
unfolding join_from split
split-join n [] [] h = refl
split-join n [] (v ∷ vs) h = absurd h
split-join n (w ∷ ws) [] h = absurd h
split-join n (w ∷ ws) (v ∷ vs) h =
    ap₂ (λ (x : ℕ) (xs : List ℕ). x ∷ xs)
    (ap (λ (x : ℕ). x % 2 ^ w) (before (n * 2 ^ w + v) ws vs h.1) ∙ low n w h.0)
    (split-join (n * 2 ^ w + v) ws vs h.1)

-- the number comes back
join-split-from : (ws : List ℕ) (n : ℕ) → join_from (n / 2 ^ total ws) ws (split ws n) ≡ n
unfolding join_from split total
join-split-from [] n = div-one n
join-split-from (w ∷ ws) n =
    ap (λ (x : ℕ). join_from x ws (split ws n))
    (ap (λ (x : ℕ). x * 2 ^ w + n / 2 ^ total ws % 2 ^ w) (sym (shr-shr n (total ws) w)) ∙ P.split (n / 2 ^ total ws) w)
    ∙ join-split-from ws n

pub join-split : (ws : List ℕ) (n : ℕ) → n < 2 ^ total ws → join ws (split ws n) ≡ n
unfolding join
join-split ws n h = ap (λ (x : ℕ). join_from x ws (split ws n)) (sym (div-eq_of_lt h)) ∙ join-split-from ws n

-- values that fit make a number that fits
pub join-lt : (ws vs : List ℕ) → Fit ws vs → join ws vs < 2 ^ total ws
unfolding join
join-lt ws vs h =
    subst (λ (x : ℕ). join_from 0 ws vs < x) (one-mul (2 ^ total ws))
    ((div-lt_iff_lt-mul (pow_pos (total ws))).0 (omega (arith, before 0 ws vs h)))

-- and what is split off fits
pub split_fit : (ws : List ℕ) (n : ℕ) → Fit ws (split ws n)
unfolding split
split_fit [] n = tt
split_fit (w ∷ ws) n = (mod-lt (n / 2 ^ total ws) (pow_pos w), split_fit ws n)

-- more values make no smaller number
pub joined-le : (n : ℕ) (ws vs : List ℕ) → n ≤ join_from n ws vs
unfolding join_from
joined-le n [] vs = le_refl n
joined-le n (w ∷ ws) [] = le_refl n
joined-le n (w ∷ ws) (v ∷ vs) =
    let h : n * 1 ≤ n * 2 ^ w = mul-le-mul_left n (pow_pos w) in
    le_trans (omega arith) (joined-le (n * 2 ^ w + v) ws vs)

-- ---- bytes

pub total-eights : (k : ℕ) → total (eights k) ≡ 8 * k
unfolding total eights
total-eights zero = refl
total-eights (suc k) = omega (arith, total-eights k)

pub length-eights : (k : ℕ) → length (eights k) ≡ k
unfolding eights
length-eights zero = refl
length-eights (suc k) = ap suc (length-eights k)

pub none-eights : (k : ℕ) → drop k (eights k) ≡ []
none-eights k = drop_of_length-le (eights k) {i = k} (omega (arith, length-eights k))

pub at-eights : (k i : ℕ) → i < k → get_or (eights k) i 0 ≡ 8
unfolding eights
at-eights zero i h = absurd (not-suc-le-zero h)
at-eights (suc k) zero h = refl
at-eights (suc k) (suc i) h = at-eights k i (le_of_suc-le-suc h)

pub fit_bytes : (s : List ℕ) → ((i : ℕ) → get_or s i 0 < 256) → Fit (eights (length s)) s
unfolding eights
fit_bytes [] h = tt
fit_bytes (x ∷ xs) h = (h 0, fit_bytes xs (λ i. h (suc i)))

-- ---- values that fit

pub fit_length : (ws vs : List ℕ) → Fit ws vs → length ws ≡ length vs
fit_length [] [] h = refl
fit_length [] (v ∷ vs) h = absurd h
fit_length (w ∷ ws) [] h = absurd h
fit_length (w ∷ ws) (v ∷ vs) h = ap suc (fit_length ws vs h.1)

-- six values, one by one
pub six_values : (vs : List ℕ) → length vs ≡ 6 → get_or vs 0 0 ∷ get_or vs 1 0 ∷ get_or vs 2 0 ∷ get_or vs 3 0 ∷ get_or vs 4 0 ∷ get_or vs 5 0 ∷ [] ≡ vs
six_values (a ∷ b ∷ c ∷ d ∷ e ∷ g ∷ []) h = refl
six_values [] h = absurd (omega arith)
six_values (a ∷ []) h = absurd (omega arith)
six_values (a ∷ b ∷ []) h = absurd (omega arith)
six_values (a ∷ b ∷ c ∷ []) h = absurd (omega arith)
six_values (a ∷ b ∷ c ∷ d ∷ []) h = absurd (omega arith)
six_values (a ∷ b ∷ c ∷ d ∷ e ∷ []) h = absurd (omega arith)
six_values (a ∷ b ∷ c ∷ d ∷ e ∷ g ∷ i ∷ vs) h = absurd (omega arith)

-- the test says what it is to say
pub fits_fit : (ws vs : List ℕ) → fits ws vs ≡ true → Fit ws vs
unfolding fits
fits_fit [] [] h = tt
fits_fit [] (v ∷ vs) h = true-not-false (sym h)
fits_fit (w ∷ ws) [] h = true-not-false (sym h)
fits_fit (w ∷ ws) (v ∷ vs) h =
    let both = and_both (ltb v (2 ^ w)) (fits ws vs) h in
    (ltb-true v (2 ^ w) both.0, fits_fit ws vs both.1)

pub fit_fits : (ws vs : List ℕ) → Fit ws vs → fits ws vs ≡ true
unfolding fits
fit_fits [] [] h = refl
fit_fits [] (v ∷ vs) h = absurd h
fit_fits (w ∷ ws) [] h = absurd h
fit_fits (w ∷ ws) (v ∷ vs) h = rw (lt-ltb v (2 ^ w) h.0) (fit_fits ws vs h.1)

-- ---- a record's bytes, for every list of widths that makes whole bytes: there and back, and back and there

pub unpack-pack : (ws : List ℕ) (k : ℕ) (vs : List ℕ) → total ws ≡ 8 * k → Fit ws vs → unpack ws k (pack ws k vs) ≡ vs
unfolding pack unpack join
unpack-pack ws k vs e h =
    ap (split ws) (join-split (eights k) (join ws vs) (subst (λ (x : ℕ). join ws vs < 2 ^ x) (e ∙ sym (total-eights k)) (join-lt ws vs h)))
    ∙ split-join 0 ws vs h

pub pack-unpack : (ws : List ℕ) (k : ℕ) (bs : List ℕ) → total ws ≡ 8 * k → Fit (eights k) bs → pack ws k (unpack ws k bs) ≡ bs
unfolding pack unpack join
pack-unpack ws k bs e h =
    ap (split (eights k)) (join-split ws (join (eights k) bs) (subst (λ (x : ℕ). join (eights k) bs < 2 ^ x) (total-eights k ∙ sym e) (join-lt (eights k) bs h)))
    ∙ split-join 0 (eights k) bs h

pub length-split : (ws : List ℕ) (n : ℕ) → length (split ws n) ≡ length ws
unfolding split
length-split [] n = refl
length-split (w ∷ ws) n = ap suc (length-split ws n)

pub length-pack : (ws : List ℕ) (k : ℕ) (vs : List ℕ) → length (pack ws k vs) ≡ k
unfolding pack
length-pack ws k vs = length-split (eights k) (join ws vs) ∙ length-eights k

pub unpack_fit : (ws : List ℕ) (k : ℕ) (bs : List ℕ) → Fit ws (unpack ws k bs)
unfolding unpack
unpack_fit ws k bs = split_fit ws (join (eights k) bs)

-- of six values of which the last two have no width, the first four are all
pub four-values : (w x y z : ℕ) (vs : List ℕ) → Fit (w ∷ x ∷ y ∷ z ∷ 0 ∷ 0 ∷ []) vs → get_or vs 0 0 ∷ get_or vs 1 0 ∷ get_or vs 2 0 ∷ get_or vs 3 0 ∷ 0 ∷ 0 ∷ [] ≡ vs
four-values w x y z vs h =
    let six = six_values vs (sym (fit_length (w ∷ x ∷ y ∷ z ∷ 0 ∷ 0 ∷ []) vs h)) in
    let fit = subst (Fit (w ∷ x ∷ y ∷ z ∷ 0 ∷ 0 ∷ [])) (sym six) h in
    let e : get_or vs 4 0 ≡ 0 = omega (arith, fit.1.1.1.1.0) in
    let g : get_or vs 5 0 ≡ 0 = omega (arith, fit.1.1.1.1.1.0) in
    rw (e, g) at six
