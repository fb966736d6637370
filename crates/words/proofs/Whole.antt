-- A number of any size in decimal: how many digits it has, that they say it, and that below 10,000 they are `decimal`'s. Assumes
-- nothing.
use mathlib.Core.Path.{◌≡◌, refl, sym, ap, ◌∙◌}
use mathlib.Core.List.{List, [], ◌∷◌, ◌++◌}
use Prim.Native.Nat.{ℕ, zero, suc, ◌+◌, ◌-◌, ◌*◌, ◌/◌, ◌%◌, ◌≤◌, ◌<◌}
use Rattle.std.proofs.Common.{◌^◌}
use native.Mathlib.Numerals.{add-one}
use native.Mathlib.Omega.{arith}
use lib.ListN.{length, get_or, length-append}
use borrow.Author.Tests.{lt-ltb, le-ltb}
use Rattle.logic.specs.Lists.{All}
use Rattle.logic.proofs.Tests.{by_lt}
use Rattle.logic.proofs.Appends.{all_append}
use Rattle.words.specs.Numerals.{Digit, value}
use Rattle.words.specs.Decimals.{width, digits, decimal}
use Rattle.words.specs.Whole.{figures_to, figures, numeral}
use Rattle.words.proofs.Decimals.{length_digits, width_1, width_2, width_3, width_4, digits_is}

-- ---- how many digits

to_one : (n v : ℕ) → v < 10 → figures_to n v ≡ 1
unfolding figures_to
to_one zero v h = refl
to_one (suc n) v h = rw (lt-ltb v 10 h)

-- any two numbers that are large enough give the same
to_same : (n m v : ℕ) → v ≤ n → v ≤ m → figures_to n v ≡ figures_to m v
unfolding figures_to
to_same zero m v h k = sym (to_one m v (omega arith))
to_same (suc n) zero v h k = to_one (suc n) v (omega arith)
to_same (suc n) (suc m) v h k =
    by_lt v 10 (λ l. rw (lt-ltb v 10 l)) (λ l. rw (le-ltb v 10 l) (ap (λ (k : ℕ). k + 1) (to_same n m (v / 10) (omega arith) (omega arith))))

pub figures-one : (v : ℕ) → v < 10 → figures v ≡ 1
unfolding figures
figures-one v h = to_one v v h

more-to : (n v : ℕ) → n ≡ v → 10 ≤ v → figures_to n v ≡ figures_to (v / 10) (v / 10) + 1
unfolding figures_to
more-to zero v e h = absurd (omega arith)
more-to (suc n) v e h = rw (le-ltb v 10 h) (ap (λ (k : ℕ). k + 1) (to_same n (v / 10) (v / 10) (omega arith) (omega arith)))

pub figures-more : (v : ℕ) → 10 ≤ v → figures v ≡ figures (v / 10) + 1
unfolding figures
figures-more v h = more-to v v refl h

-- a number between two powers of ten
pub figures-between : (k v : ℕ) → 10 ^ k ≤ v → v < 10 * 10 ^ k → figures v ≡ k + 1
figures-between zero v l h = figures-one v (omega arith)
figures-between (suc k) v l h = omega (arith, figures-more v (omega arith), figures-between k (v / 10) (omega arith) (omega arith))

-- ten times itself k times over
abbrev tens : ℕ → ℕ
tens zero = 10
tens (suc k) = 10 * tens k

figures-tens : (k v : ℕ) → v < tens k → figures v ≤ suc k
figures-tens zero v h = omega (arith, figures-one v h)
figures-tens (suc k) v h =
    by_lt v 10 (λ l. omega (arith, figures-one v l))
    (λ l. omega (arith, figures-more v l, figures-tens k (v / 10) (omega arith)))

-- a number of 64 bits has at most 20
pub figures-le : (v : ℕ) → v < 18446744073709551616 → figures v ≤ 20
figures-le v h = figures-tens 19 v (omega arith)

-- ---- the digits

pub length-numeral : (v : ℕ) → length (numeral v) ≡ figures v
unfolding numeral
length-numeral v = length_digits (figures v) v

-- k is how many it has, as the calls give it
pub numeral_is : (v k : ℕ) → k ≡ figures v → digits k v ≡ numeral v
unfolding numeral
numeral_is v k e = ap (λ (n : ℕ). digits n v) e

-- below 10,000 it is the number in decimal as the sheet has it
pub figures-width : (v : ℕ) → v < 10000 → figures v ≡ width v
figures-width v small =
    by_lt v 10 (λ h. figures-one v h ∙ sym (width_1 v h))
    (λ l. by_lt v 100 (λ h. omega (arith, figures-more v l, figures-one (v / 10) (omega arith), width_2 v l h))
    (λ l. by_lt v 1000 (λ h. omega (arith, figures-more v (omega arith), figures-more (v / 10) (omega arith), figures-one (v / 10 / 10) (omega arith), width_3 v l h))
    (λ l. omega (arith, figures-more v (omega arith), figures-more (v / 10) (omega arith), figures-more (v / 10 / 10) (omega arith), figures-one (v / 10 / 10 / 10) (omega arith), width_4 v l))))

pub numeral-decimal : (v : ℕ) → v < 10000 → numeral v ≡ decimal v
unfolding numeral
numeral-decimal v small = digits_is v (figures v) (figures-width v small)

-- ---- what they say

numeral-one : (v : ℕ) → v < 10 → numeral v ≡ (48 + v % 10) ∷ []
unfolding numeral digits
numeral-one v h = rw (figures-one v h)

numeral-more : (v : ℕ) → 10 ≤ v → numeral v ≡ numeral (v / 10) ++ ((48 + v % 10) ∷ [])
unfolding numeral digits
numeral-more v h = rw (figures-more v h, add-one)

value-last : (n : ℕ) (ds : List ℕ) (b : ℕ) → value n (ds ++ (b ∷ [])) ≡ value n ds * 10 + (b - 48)
unfolding value
value-last n [] b = refl
value-last n (d ∷ ds) b = value-last (n * 10 + (d - 48)) ds b

first-append : (ds : List ℕ) (b : ℕ) → 0 < length ds → get_or (ds ++ (b ∷ [])) 0 0 ≡ get_or ds 0 0
first-append [] b h = absurd (omega arith)
first-append (d ∷ ds) b h = refl

-- digits that make the number, with no leading zero
abbrev Says : ℕ → List ℕ → Type 0
Says v ds = All Digit ds × (0 < length ds) × (value 0 ds ≡ v) × (0 < v → get_or ds 0 0 ≡ 48 → ⊥)

says_one : (v : ℕ) → v < 10 → Says v ((48 + v % 10) ∷ [])
unfolding value
says_one v h = (((omega arith, omega arith), tt), omega arith, omega arith, λ p e. omega arith)

says_more : (v : ℕ) (ds : List ℕ) → 10 ≤ v → Says (v / 10) ds → Says v (ds ++ ((48 + v % 10) ∷ []))
says_more v ds h s = (
  all_append Digit ds _ s.0 ((omega arith, omega arith), tt),
  omega (arith, length-append ds ((48 + v % 10) ∷ [])),
  value-last 0 ds (48 + v % 10) ∙ omega (arith, s.2),
  λ p e. s.3 (omega arith) (sym (first-append ds (48 + v % 10) s.1) ∙ e),
)

says_to : (n v : ℕ) → v ≤ n → Says v (numeral v)
says_to zero v h = rw (numeral-one v (omega arith)) (says_one v (omega arith))
says_to (suc n) v h =
    by_lt v 10 (λ l. rw (numeral-one v l) (says_one v l))
    (λ l. rw (numeral-more v l) (says_more v (numeral (v / 10)) l (says_to n (v / 10) (omega arith))))

pub numeral_says : (v : ℕ) → Says v (numeral v)
numeral_says v = says_to v v (omega arith)
