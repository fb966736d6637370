-- A number in decimal is read back, and the digits that are read are the number in decimal. Assumes nothing.
use mathlib.Core.Path.{◌≡◌, refl, sym, ap, ◌∙◌}
use mathlib.Core.Bool.{Bool, true, false, not, true≢false}
use mathlib.Core.List.{List, [], ◌∷◌, ◌++◌, append-nil}
use Prim.Native.Nat.{ℕ, zero, suc, ◌+◌, ◌-◌, ◌*◌, ◌/◌, ◌%◌, ◌≤◌, ◌<◌}
use native.Mathlib.Nat.{mod-eq_of_lt}
use native.Mathlib.Omega.{arith}
use lib.ListN.{length, get_or, set, length-append}
use lib.Seq.{sets, append_snoc}
use borrow.Author.Tests.{lt-ltb, le-ltb, eq-eqb, ne_eqb}
use Rattle.logic.specs.Lists.{All}
use Rattle.logic.proofs.Tests.{by_lt}
use Rattle.logic.proofs.Rooms.{sets_last}
use Rattle.words.specs.Numerals.{Digit, value}
use Rattle.words.specs.Numbers.{formed}
use Rattle.words.specs.Decimals.{width, digits, decimal}
use Rattle.words.proofs.Numbers.{formed-none, formed_long, formed-more}

pub length_digits : (k v : ℕ) → length (digits k v) ≡ k
unfolding digits
length_digits zero v = refl
length_digits (suc k) v = length-append (digits k (v / 10)) ((48 + v % 10) ∷ []) ∙ omega (arith, length_digits k (v / 10))

-- a turn of the loop that writes digits from the last
pub digits_turn : (room : List ℕ) (at left j i : ℕ) → suc i ≡ j → sets room at (digits j left) ≡ sets (set room (at + i) (48 + left % 10)) at (digits i (left / 10))
unfolding digits
digits_turn room at left j i e =
    let l = length_digits i (left / 10) in
    rw (← e) (sets_last room at (digits i (left / 10)) (48 + left % 10) ∙ rw l)

pub length-decimal : (v : ℕ) → length (decimal v) ≡ width v
unfolding decimal
length-decimal v = length_digits (width v) v

-- k is its width, as the calls give it
pub digits_is : (v k : ℕ) → k ≡ width v → digits k v ≡ decimal v
unfolding decimal
digits_is v k e = ap (λ (n : ℕ). digits n v) e

-- the width of a number, by its range
module _ (v : ℕ) where
  pub width_1 : v < 10 → width v ≡ 1
  unfolding width
  width_1 h = rw (lt-ltb v 10 h)

  pub width_2 : 10 ≤ v → v < 100 → width v ≡ 2
  unfolding width
  width_2 l h = rw (le-ltb v 10 l, lt-ltb v 100 h)

  pub width_3 : 100 ≤ v → v < 1000 → width v ≡ 3
  unfolding width
  width_3 l h = rw (le-ltb v 10 (omega arith), le-ltb v 100 l, lt-ltb v 1000 h)

  pub width_4 : 1000 ≤ v → width v ≡ 4
  unfolding width
  width_4 l = rw (le-ltb v 10 (omega arith), le-ltb v 100 (omega arith), le-ltb v 1000 l)

pub width-le : (v : ℕ) → width v ≤ 4
width-le v =
    by_lt v 10 (λ h. omega (arith, width_1 v h))
    (λ l. by_lt v 100 (λ h. omega (arith, width_2 v l h))
    (λ l. by_lt v 1000 (λ h. omega (arith, width_3 v l h)) (λ l. omega (arith, width_4 v l))))

-- the four shapes of a number in decimal
shapes : (P : List ℕ → Type 0) (v : ℕ)
    → (v < 10 → P ((48 + v % 10) ∷ []))
    → (10 ≤ v → v < 100 → P ((48 + v / 10 % 10) ∷ (48 + v % 10) ∷ []))
    → (100 ≤ v → v < 1000 → P ((48 + v / 10 / 10 % 10) ∷ (48 + v / 10 % 10) ∷ (48 + v % 10) ∷ []))
    → (1000 ≤ v → P ((48 + v / 10 / 10 / 10 % 10) ∷ (48 + v / 10 / 10 % 10) ∷ (48 + v / 10 % 10) ∷ (48 + v % 10) ∷ []))
    → P (decimal v)
unfolding decimal digits
shapes P v one two three four =
    by_lt v 10 (λ h. rw (width_1 v h, decimal) (one h))
    (λ l. by_lt v 100 (λ h. rw (width_2 v l h, decimal) (two l h))
    (λ l. by_lt v 1000 (λ h. rw (width_3 v l h, decimal) (three l h))
    (λ l. rw (width_4 v l, decimal) (four l))))

-- printing gives digits
pub decimal-digits : (v : ℕ) → All Digit (decimal v)
decimal-digits v =
    shapes (All Digit) v (λ h. ((omega arith, omega arith), tt)) (λ l h. ((omega arith, omega arith), ((omega arith, omega arith), tt)))
    (λ l h. ((omega arith, omega arith), ((omega arith, omega arith), ((omega arith, omega arith), tt)))) (λ l. ((omega arith, omega arith), ((omega arith, omega arith), ((omega arith, omega arith), ((omega arith, omega arith), tt)))))

-- in the form of a number
pub decimal-formed : (v : ℕ) → v < 10000 → formed (decimal v) ≡ true
unfolding formed
decimal-formed v small =
    shapes (λ ds. formed ds ≡ true) v (λ h. refl)
    (λ l h. rw (ne_eqb (48 + v / 10 % 10) 48 (λ e. omega arith)))
    (λ l h. rw (ne_eqb (48 + v / 10 / 10 % 10) 48 (λ e. omega arith)))
    (λ l. rw (ne_eqb (48 + v / 10 / 10 / 10 % 10) 48 (λ e. omega arith)))

-- whose value is the number
pub value-decimal : (v : ℕ) → v < 10000 → value 0 (decimal v) ≡ v
unfolding value
value-decimal v small =
    shapes (λ ds. value 0 ds ≡ v) v (λ h. omega arith) (λ l h. omega arith) (λ l h. omega arith)
    (λ l. let top : v / 10 / 10 / 10 % 10 ≡ v / 10 / 10 / 10 = mod-eq_of_lt (omega arith) in omega arith)

-- one digit more
digits_more : (k n d : ℕ) → d < 10 → digits (suc k) (n * 10 + d) ≡ digits k n ++ ((48 + d) ∷ [])
unfolding digits
digits_more k n d h =
    let q : (n * 10 + d) / 10 ≡ n = omega arith in
    let r : (n * 10 + d) % 10 ≡ d = omega arith in
    rw (q, r)

-- the digits of what digits make behind n are n's and they
digits_value : (j n : ℕ) (ds : List ℕ) → All Digit ds → digits (length ds + j) (value n ds) ≡ digits j n ++ ds
unfolding value
digits_value j n [] d = let e : 0 + j ≡ j = omega arith in rw e (sym (append-nil (digits j n)))
digits_value j n (b ∷ ds) d =
    let e : suc (length ds) + j ≡ length ds + suc j = omega arith in
    let back : 48 + (b - 48) ≡ b = omega arith in
    rw e
    (digits_value (suc j) (n * 10 + (b - 48)) ds d.1
    ∙ ap (λ (l : List ℕ). l ++ ds) (digits_more j n (b - 48) (omega arith))
    ∙ rw back (append_snoc (digits j n) b ds))

-- no leading zero: as many digits as the number has
pub lead : (ds : List ℕ) → 1 < length ds → length ds ≤ 4 → formed ds ≡ true → get_or ds 0 0 ≡ 48 → ⊥
lead ds l h f e =
    let z : ◌≡◌ {A = Bool} true false = sym f ∙ formed-more ds l h ∙ ap not (eq-eqb (get_or ds 0 0) 48 e) in
    true≢false z

width-value : (ds : List ℕ) → All Digit ds → formed ds ≡ true → width (value 0 ds) ≡ length ds
unfolding value
width-value [] d f = absurd (true≢false (sym f ∙ formed-none [] refl))
width-value (a ∷ []) d f = width_1 _ (omega arith)
width-value (a ∷ b ∷ []) d f =
    let n = lead (a ∷ b ∷ []) (omega arith) (omega arith) f in
    width_2 _ (omega arith) (omega arith)
width-value (a ∷ b ∷ c ∷ []) d f =
    let n = lead (a ∷ b ∷ c ∷ []) (omega arith) (omega arith) f in
    width_3 _ (omega arith) (omega arith)
width-value (a ∷ b ∷ c ∷ e ∷ []) d f =
    let n = lead (a ∷ b ∷ c ∷ e ∷ []) (omega arith) (omega arith) f in
    width_4 _ (omega arith)
width-value (a ∷ b ∷ c ∷ e ∷ g ∷ s) d f = absurd (true≢false (sym f ∙ formed_long (a ∷ b ∷ c ∷ e ∷ g ∷ s) (omega arith)))

-- so digits in the form of a number are its decimal
pub decimal-value : (ds : List ℕ) → All Digit ds → formed ds ≡ true → decimal (value 0 ds) ≡ ds
unfolding decimal digits
decimal-value ds d f =
    let e : length ds + 0 ≡ length ds = omega arith in
    rw (width-value ds d f) (rw e at (digits_value 0 0 ds d))
