-- A word compared with the front of a text. Assumes nothing.
use mathlib.Core.Path.{◌≡◌, refl, sym, ap, ap₂, ◌∙◌}
use mathlib.Core.Bool.{true, true≢false, ◌&&◌}
use mathlib.Core.List.{List, [], ◌∷◌, ◌++◌}
use Prim.Native.Nat.{ℕ, ◌≤◌, zero-le}
use native.Mathlib.Omega.{arith}
use lib.Dec.{eqb}
use lib.ListN.{length, drop}
use borrow.Author.Tests.{eq-eqb, ne_eqb, eqb-true}
use Rattle.std.specs.List.{starts_with}
use Rattle.logic.proofs.Tests.{by_test, and_both}
use Rattle.words.specs.Words.{starts}

eqb-sym : (a b : ℕ) → eqb a b ≡ eqb b a
eqb-sym a b =
    by_test (eqb a b) (λ e. e ∙ sym (eq-eqb b a (sym (eqb-true a b e))))
    (λ e. e ∙ sym (ne_eqb b a (λ q. true≢false (sym (eq-eqb a b (sym q)) ∙ e))))

-- the library's word says the same
pub starts_with-starts : (w s : List ℕ) → starts_with eqb s w ≡ starts w s
unfolding starts
starts_with-starts [] s = refl
starts_with-starts (a ∷ w) [] = refl
starts_with-starts (a ∷ w) (x ∷ s) = ap₂ ◌&&◌ (eqb-sym a x) (starts_with-starts w s)

-- a text that begins with a word is the word and what follows
pub starts-split : (w s : List ℕ) → starts w s ≡ true → s ≡ w ++ drop (length w) s
unfolding starts
starts-split [] s h = refl
starts-split (a ∷ w) [] h = cc
starts-split (a ∷ w) (x ∷ s) h =
    let both = and_both (eqb x a) (starts w s) h in
    let e : x ≡ a = eqb-true x a both.0 in
    rw e (ap (λ (l : List ℕ). a ∷ l) (starts-split w s both.1))

pub starts-append : (w s : List ℕ) → starts w (w ++ s) ≡ true
unfolding starts
starts-append [] s = refl
starts-append (a ∷ w) s = rw (eq-eqb a a refl) (starts-append w s)

pub starts-le : (w s : List ℕ) → starts w s ≡ true → length w ≤ length s
unfolding starts
starts-le [] s h = zero-le
starts-le (a ∷ w) [] h = let z : ◌≡◌ {A = ℕ} 0 1 = cc in absurd (omega arith)
starts-le (a ∷ w) (x ∷ s) h = omega (arith, starts-le w s (and_both (eqb x a) (starts w s) h).1)
