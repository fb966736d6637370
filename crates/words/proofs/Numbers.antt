-- Digits and the number that they make, and a number at a place of a text. Assumes nothing.
use mathlib.Core.Path.{◌≡◌, refl, sym, ap, ◌∙◌}
use mathlib.Core.Bool.{true, false, not, true≢false, and-false, and-true}
use mathlib.Core.List.{List, [], ◌∷◌}
use Rattle.std.proofs.Common.{Some, None, min}
use Rattle.std.specs.Char.{is_ascii_digit}
use Rattle.std.specs.List.{prefix_len}
use Prim.Native.Nat.{ℕ, zero, suc, ◌+◌, ◌-◌, ◌*◌, ◌≤◌, ◌<◌, zero-le}
use native.Mathlib.Numerals.{add-one}
use native.Mathlib.Omega.{arith}
use lib.Dec.{leb, ltb, eqb, lit≤, lit<}
use lib.ListN.{length, get_or, take, drop, drop_of_length-le, length-drop, length-take}
use lib.Seq.{drop-cons, take-take}
use borrow.Author.Tests.{lt-ltb, le-ltb, lt-leb, le-leb, eq-eqb, ne_eqb, leb-true, ltb-true}
use Rattle.logic.specs.Lists.{All}
use Rattle.logic.proofs.Parts.{part_to_end}
use Rattle.logic.proofs.Tests.{by_test, by_lt, and_both}
use Rattle.words.specs.Words.{starts}
use Rattle.words.specs.Numerals.{Digit, digit, value}
use Rattle.words.specs.Numbers.{run, formed, number_of, number_at, number_after}
use Rattle.words.proofs.Words.{starts-le}

-- a digit is a byte from 48 to 57
digit_range : (b : ℕ) → digit b ≡ true → Digit b
unfolding digit
digit_range b h =
    let both = and_both (leb 48 b) (ltb b 58) h in
    (leb-true 48 b both.0, ltb-true b 58 both.1)

pub digit_is : (b : ℕ) → Digit b → digit b ≡ true
unfolding digit
digit_is b d = rw (le-leb 48 b d.0, lt-ltb b 58 d.1)

-- ---- the run of digits

pub run-le : (s : List ℕ) → run s ≤ length s
unfolding run
run-le [] = zero-le
run-le (b ∷ s) = by_test (digit b) (λ e. rw e (omega (arith, run-le s))) (λ e. rw e zero-le)

-- the library's words for it
digit-is_ascii : (b : ℕ) → digit b ≡ is_ascii_digit b
unfolding digit
digit-is_ascii b = by_lt b 58 (λ l. rw (lt-ltb b 58 l, le-leb b 57 (omega arith))) (λ l. rw (le-ltb b 58 l, lt-leb b 57 (omega arith)))

run-prefix_len : (s : List ℕ) → run s ≡ prefix_len is_ascii_digit s
unfolding run
run-prefix_len [] = refl
run-prefix_len (b ∷ s) =
    let one : suc (prefix_len is_ascii_digit s) ≡ 1 + prefix_len is_ascii_digit s = omega arith in
    rw (digit-is_ascii b, run-prefix_len s, one)

module _ (s : List ℕ) (i : ℕ) (h : i < length s) where
  pub run-digit : digit (get_or s i 0) ≡ true → run (drop i s) ≡ suc (run (drop (i + 1) s))
  unfolding run
  run-digit e = rw (add-one, drop-cons s i 0, e)

  pub run-other : digit (get_or s i 0) ≡ false → run (drop i s) ≡ 0
  unfolding run
  run-other e = rw (drop-cons s i 0, e)

pub run_end : (s : List ℕ) (i : ℕ) → length s ≤ i → run (drop i s) ≡ 0
unfolding run
run_end s i h = rw (drop_of_length-le s h)

-- the first k bytes begin with as many digits as all do, but no more than k
run_first : (k : ℕ) (s : List ℕ) → run (take k s) ≡ min k (run s)
unfolding run
run_first zero s = omega arith
run_first (suc k) [] = omega arith
run_first (suc k) (b ∷ s) = by_test (digit b) (λ e. rw e (omega (arith, run_first k s))) (λ e. rw e (omega arith))

-- the run is all digits
pub run_take : (s : List ℕ) → run (take (run s) s) ≡ length (take (run s) s)
unfolding run
run_take [] = refl
run_take (b ∷ s) = by_test (digit b) (λ e. rw e (rw e (ap suc (run_take s)))) (λ e. rw e)

pub run-digits : (s : List ℕ) → run s ≡ length s → All Digit s
unfolding run
run-digits [] h = tt
run-digits (b ∷ s) h =
    by_test (digit b)
    (λ e. (digit_range b e, run-digits s (omega (arith, rw e at h))))
    (λ e. let z = rw e at h in absurd (omega arith))

-- ---- the value of digits

-- at most four digits make a number below 10,000
pub value_small : (s : List ℕ) → All Digit s → length s ≤ 4 → value 0 s < 10000
unfolding value
value_small [] d h = omega arith
value_small (a ∷ []) d h = omega arith
value_small (a ∷ b ∷ []) d h = omega arith
value_small (a ∷ b ∷ c ∷ []) d h = omega arith
value_small (a ∷ b ∷ c ∷ e ∷ []) d h = omega arith
value_small (a ∷ b ∷ c ∷ e ∷ f ∷ s) d h = absurd (omega arith)

-- ---- the form of a number

module _ (ds : List ℕ) where
  pub formed-none : length ds ≡ 0 → formed ds ≡ false
  unfolding formed
  formed-none e = rw e

  pub formed_long : 4 < length ds → formed ds ≡ false
  unfolding formed
  formed_long h = rw (lt-ltb 0 (length ds) (omega arith), lt-leb (length ds) 4 h)

  pub formed-one : length ds ≡ 1 → formed ds ≡ true
  unfolding formed
  formed-one e = rw e

  pub formed-more : 1 < length ds → length ds ≤ 4 → formed ds ≡ not (eqb (get_or ds 0 0) 48)
  unfolding formed
  formed-more l h = rw (lt-ltb 0 (length ds) (omega arith), le-leb (length ds) 4 h, ne_eqb (length ds) 1 (λ e. omega arith))

  -- several digits that begin with "0" are none, and others are if they are few
  pub formed_zero : 1 < length ds → get_or ds 0 0 ≡ 48 → formed ds ≡ false
  unfolding formed
  formed_zero l e = rw (ne_eqb (length ds) 1 (λ q. omega arith), eq-eqb (get_or ds 0 0) 48 e) (and-false _)

  pub formed_rest : 1 < length ds → (get_or ds 0 0 ≡ 48 → ⊥) → formed ds ≡ leb (length ds) 4
  unfolding formed
  formed_rest l e = rw (lt-ltb 0 (length ds) (omega arith), ne_eqb (length ds) 1 (λ q. omega arith), ne_eqb (get_or ds 0 0) 48 e) (and-true _)

-- what passes
pub formed_some : (ds : List ℕ) → formed ds ≡ true → 1 ≤ length ds
formed_some ds f = by_lt 0 (length ds) (λ h. h) (λ h. absurd (true≢false (sym f ∙ formed-none ds (omega arith))))

pub formed-le : (ds : List ℕ) → formed ds ≡ true → length ds ≤ 4
formed-le ds f = by_lt 4 (length ds) (λ h. absurd (true≢false (sym f ∙ formed_long ds h))) (λ h. h)

-- ---- digits read one after another

-- one and k zeros: what k digits make is below it
abbrev tens : ℕ → ℕ
tens zero = 1
tens (suc k) = tens k * 10

tens-le : (k : ℕ) → k < 5 → tens k ≤ 10000
tens-le zero h = lit≤ tt
tens-le (suc zero) h = lit≤ tt
tens-le (suc (suc zero)) h = lit≤ tt
tens-le (suc (suc (suc zero))) h = lit≤ tt
tens-le (suc (suc (suc (suc zero)))) h = lit≤ tt
tens-le (suc (suc (suc (suc (suc k))))) h = absurd (omega arith)

-- each of the digits is one
pub digit-at : (ds : List ℕ) (i : ℕ) → All Digit ds → i < length ds → Digit (get_or ds i 0)
digit-at [] i all h = absurd (omega arith)
digit-at (b ∷ ds) zero all h = all.0
digit-at (b ∷ ds) (suc i) all h = digit-at ds i all.1 (omega arith)

-- v is read of the first i bytes, which are digits, and those behind them are left
pub record ReadTo (s : List ℕ) (i v : ℕ) : Type 0 where
  pub small : v < tens i
  pub ran : i + run (drop i s) ≡ run s
  pub says : value v (take (run (drop i s)) (drop i s)) ≡ value 0 (take (run s) s)

pub read-start : (s : List ℕ) → ReadTo s 0 0
read-start s = record { small = lit< tt; ran = omega arith; says = refl }

-- a digit more is taken into the value
value-next : (v : ℕ) (s : List ℕ) (i : ℕ) → i < length s → digit (get_or s i 0) ≡ true
    → value v (take (run (drop i s)) (drop i s)) ≡ value (v * 10 + (get_or s i 0 - 48)) (take (run (drop (i + 1) s)) (drop (i + 1) s))
unfolding value run
value-next v s i h d = rw (add-one, drop-cons s i 0, d)

module _ (s : List ℕ) (i v : ℕ) (read : ReadTo s i v) where
  -- a digit more: the byte is one, and the number stays below 100,000
  pub read_next : is_ascii_digit (get_or s i 0) ≡ true → length s ≤ 5 → i < length s
      → (48 ≤ get_or s i 0) × (v * 10 + (get_or s i 0 - 48) < 100000) × ReadTo s (i + 1) (v * 10 + (get_or s i 0 - 48))
  read_next a few h =
      let e = digit-is_ascii (get_or s i 0) ∙ a in
      let d = digit_range (get_or s i 0) e in
      let k : tens i ≤ 10000 = tens-le i (omega arith) in
      let below : v * 10 + (get_or s i 0 - 48) < tens i * 10 = omega (arith, read.small, d.0, d.1) in (
        d.0,
        omega (arith, k, below),
        record {
          small = rw add-one below;
          ran = omega (arith, read.ran, run-digit s i h e);
          says = sym (value-next v s i h e) ∙ read.says;
        },
      )

  -- the digits are all read
  none_left : run (drop i s) ≡ 0 → (v ≡ value 0 (take (run s) s)) × (i ≡ run s)
  unfolding value
  none_left e = (rw e at read.says, omega (arith, e, read.ran))

  pub read_stop : is_ascii_digit (get_or s i 0) ≡ false → i < length s → (v ≡ value 0 (take (run s) s)) × (i ≡ run s)
  read_stop a h = none_left (run-other s i h (digit-is_ascii (get_or s i 0) ∙ a))

  pub read-end : length s ≤ i → (v ≡ value 0 (take (run s) s)) × (i ≡ run s)
  read-end h = none_left (run_end s i h)

-- the digits that a text begins with, from a place on
abbrev pub digits_at : ℕ → List ℕ → List ℕ
digits_at at s = take (run (drop at s)) (drop at s)

-- the first k bytes of a text from a place on, as the calls give them
abbrev first : ℕ → ℕ → List ℕ → List ℕ
first at k s = take k (take (length s - at) (drop at s))

-- v is read of the first five bytes of the text from a place on, of which n are digits
module _ (at k v n : ℕ) (s : List ℕ) (h : at ≤ length s) (q : k ≡ min (length s - at) 5)
    (ev : v ≡ value 0 (take (run (first at k s)) (first at k s))) (en : n ≡ run (first at k s)) where
  ran : n ≡ min 5 (run (drop at s))
  ran =
      let e' = rw part_to_end at en in
      omega (arith, q, e', run_first k (drop at s), run-le (drop at s), length-drop at s)

  pub run-inside : at + n ≤ length s
  run-inside = omega (arith, ran, run-le (drop at s), length-drop at s)

  -- five are too many, and fewer are all
  pub number_none : formed (take (at + n - at) (drop at s)) ≡ false → None ≡ number_at at s
  unfolding number_at number_of
  number_none w =
      by_lt 4 (run (drop at s))
      (λ l. rw (formed_long (digits_at at s) (omega (arith, l, length-take (run (drop at s)) (drop at s), run-le (drop at s)))))
      (λ l.
      let d : at + n - at ≡ run (drop at s) = omega (arith, ran, l) in
      let w' = rw d at w in
      rw w')

  module _ (w : formed (take (at + n - at) (drop at s)) ≡ true) where
    all : n ≡ run (drop at s)
    all =
        let few = formed-le (take (at + n - at) (drop at s)) w in
        omega (arith, ran, few, length-take (at + n - at) (drop at s), run-le (drop at s))

    same : formed (digits_at at s) ≡ true
    same =
        let d : at + n - at ≡ run (drop at s) = omega (arith, all) in
        rw d at w

    says : v ≡ value 0 (digits_at at s)
    says =
        let e = rw part_to_end at ev in
        let r : run (take k (drop at s)) ≡ run (drop at s) = omega (arith, rw part_to_end at en, all) in
        let t : take (run (drop at s)) (take k (drop at s)) ≡ digits_at at s = take-take (run (drop at s)) k (drop at s) (omega (arith, q, ran, all, length-drop at s, run-le (drop at s))) in
        rw (r, t) at e

    pub number_small : v < 10000
    number_small = omega (arith, says, value_small (digits_at at s) (run-digits (digits_at at s) (run_take (drop at s))) (formed-le (digits_at at s) same))

    pub number_found : Some (v, at + n) ≡ number_at at s
    unfolding number_at number_of
    number_found =
        let w' = same in
        rw (w', ← says, ← all)

-- ---- a number behind a word

-- nothing stands beyond the text
number_beyond : (at : ℕ) (s : List ℕ) → length s ≤ at → number_at at s ≡ None
unfolding number_at number_of formed run
number_beyond at s h = rw (drop_of_length-le s h)

module _ (s w : List ℕ) (at : ℕ) where
  pub after_beyond : length s < at → None ≡ number_after at w s
  unfolding number_after
  after_beyond h =
      by_test (starts w (drop at s)) (λ e. rw e (sym (number_beyond (at + length w) s (omega arith)))) (λ e. rw e)

  pub after_none : starts w (drop at s) ≡ false → None ≡ number_after at w s
  unfolding number_after
  after_none e = rw e

  pub after-found : starts w (drop at s) ≡ true → number_at (at + length w) s ≡ number_after at w s
  unfolding number_after
  after-found e = rw e

  pub after-le : at ≤ length s → starts w (drop at s) ≡ true → at + length w ≤ length s
  after-le inside e = omega (arith, starts-le w (drop at s) e, length-drop at s)
