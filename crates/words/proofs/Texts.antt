-- A word and a number behind it: what is read is what would be written there, and what is written is read back. Assumes nothing.
use mathlib.Core.Path.{◌≡◌, refl, sym, ap, ap₂, ◌∙◌}
use mathlib.Core.Bool.{true}
use mathlib.Core.List.{List, [], ◌∷◌, ◌++◌, append_assoc}
use Prim.Native.Nat.{ℕ, suc, ◌+◌, ◌≤◌, ◌<◌}
use native.Mathlib.Omega.{arith}
use lib.ListN.{length, take, drop, length-append, length-drop, take-append-drop}
use lib.Seq.{drop-drop, drop_at, take_at}
use Rattle.logic.specs.Lists.{All}
use Rattle.logic.proofs.Tests.{by_test, by_lt}
use Rattle.std.proofs.Common.{Option, Some, None}
use Rattle.words.specs.Words.{starts}
use Rattle.words.specs.Numerals.{Digit, value}
use Rattle.words.specs.Numbers.{run, formed, number_of, number_at, number_after}
use Rattle.words.specs.Decimals.{decimal}
use Rattle.words.proofs.Words.{starts-split, starts-append, starts-le}
use Rattle.words.proofs.Numbers.{digit_is, run-le, run_take, run-digits, value_small, formed-le, after_beyond}
use Rattle.words.proofs.Decimals.{decimal-digits, decimal-formed, value-decimal, decimal-value}

-- ---- what is read

-- a number from v's digits stands in s from p on, and n is the place behind it
abbrev Stands : ℕ → List ℕ → ℕ → ℕ → Type 0
Stands p s v n = (n ≤ length s) × (v < 10000) × (drop p s ≡ decimal v ++ drop n s)

-- two pairs that are found are the same only where their parts are
pub same_pair : {A B : Type 0} (a x : A) (b y : B) → ◌≡◌ {A = Option (A × B)} (Some (a, b)) (Some (x, y)) → (a ≡ x) × (b ≡ y)
same_pair {A} {B} a x b y e =
    let p : ◌≡◌ {A = A × B} (a, b) (x, y) = cc in
    (ap (λ (q : A × B). q.0) p, ap (λ (q : A × B). q.1) p)

never : (P : Type 0) (v n : ℕ) → ◌≡◌ {A = Option (ℕ × ℕ)} None (Some (v, n)) → P
never P v n e = cc

number-stands : (p : ℕ) (s : List ℕ) (v n : ℕ) → p ≤ length s → number_at p s ≡ Some (v, n) → Stands p s v n
unfolding number_at number_of
number-stands p s v n h e =
    let t : List ℕ = drop p s in
    let ds : List ℕ = take (run t) t in
    by_test (formed ds)
    (λ f.
    let i : Some (value 0 ds, p + run t) ≡ Some (v, n) = rw f at e in
    let ev : value 0 ds ≡ v = (same_pair (value 0 ds) v (p + run t) n i).0 in
    let en : p + run t ≡ n = (same_pair (value 0 ds) v (p + run t) n i).1 in
    let all : All Digit ds = run-digits ds (run_take t) in
    let text : decimal v ≡ ds = ap decimal (sym ev) ∙ decimal-value ds all f in (
      omega (arith, run-le t, length-drop p s),
      omega (arith, value_small ds all (formed-le ds f)),
      sym (take-append-drop (run t) t) ∙ ap₂ (λ (a b : List ℕ). a ++ b) (sym text) (drop-drop (run t) p s ∙ ap (λ (k : ℕ). drop k s) en),
    ))
    (λ f. let i : None ≡ Some (v, n) = rw f at e in never (Stands p s v n) v n i)

-- the word, the number in decimal, and the rest of the text
pub after-stands : (at : ℕ) (w s : List ℕ) (v n : ℕ) → number_after at w s ≡ Some (v, n)
    → (n ≤ length s) × (v < 10000) × (drop at s ≡ (w ++ decimal v) ++ drop n s)
unfolding number_after
after-stands at w s v n e =
    by_test (starts w (drop at s))
    (λ b.
    let i : number_at (at + length w) s ≡ Some (v, n) = rw b at e in
    let inside : at ≤ length s = by_lt (length s) at (λ h. never _ v n (after_beyond s w at h ∙ e)) (λ h. h) in
    let le : at + length w ≤ length s = omega (arith, starts-le w (drop at s) b, length-drop at s) in
    let st = number-stands (at + length w) s v n le i in (
      st.0,
      st.1,
      starts-split w (drop at s) b ∙ ap (λ (x : List ℕ). w ++ x) (drop-drop (length w) at s ∙ st.2) ∙ sym (append_assoc w (decimal v) (drop n s)),
    ))
    (λ b. let i : None ≡ Some (v, n) = rw b at e in never _ v n i)

-- ---- what is written

-- digits, and what begins with none
run-append : (ds post : List ℕ) → All Digit ds → run post ≡ 0 → run (ds ++ post) ≡ length ds
unfolding run
run-append [] post d e = e
run-append (b ∷ ds) post d e = rw (digit_is b d.0) (ap suc (run-append ds post d.1 e))

number-written : (p : ℕ) (s post : List ℕ) (v : ℕ) → v < 10000 → run post ≡ 0 → drop p s ≡ decimal v ++ post → number_at p s ≡ Some (v, p + length (decimal v))
unfolding number_at number_of
number-written p s post v small e t =
    rw (t, run-append (decimal v) post (decimal-digits v) e, take_at (decimal v) post (length (decimal v)) refl, decimal-formed v small, value-decimal v small)

-- it is read back
pub after-written : (at : ℕ) (w s post : List ℕ) (v : ℕ) → v < 10000 → run post ≡ 0 → drop at s ≡ (w ++ decimal v) ++ post
    → number_after at w s ≡ Some (v, at + length (w ++ decimal v))
unfolding number_after
after-written at w s post v small e t =
    let t' : drop at s ≡ w ++ (decimal v ++ post) = t ∙ append_assoc w (decimal v) post in
    let b : starts w (drop at s) ≡ true = ap (starts w) t' ∙ starts-append w (decimal v ++ post) in
    let rest : drop (at + length w) s ≡ decimal v ++ post = sym (drop-drop (length w) at s) ∙ ap (drop (length w)) t' ∙ drop_at w (decimal v ++ post) (length w) refl in
    let l : at + length w + length (decimal v) ≡ at + length (w ++ decimal v) = omega (arith, length-append w (decimal v)) in
    rw b (number-written (at + length w) s post v small e rest ∙ ap (λ (n : ℕ). Some (v, n)) l)
