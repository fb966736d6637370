-- Lines taken one after another. Assumes nothing.
use mathlib.Core.Path.{◌≡◌, refl, sym, ap, ◌∙◌}
use mathlib.Core.Bool.{Bool, true, false, cond, false≢true}
use mathlib.Core.List.{List, [], ◌∷◌, ◌++◌}
use Prim.Native.Nat.{ℕ, ◌<◌}
use native.Mathlib.Omega.{arith}
use lib.Dec.{eqb}
use lib.ListN.{length}
use borrow.Author.Tests.{ne_eqb, eqb-false}
use Rattle.logic.specs.Lists.{All}
use Rattle.logic.proofs.Tests.{by_test}
use Rattle.words.specs.Numerals.{Digit}
use Rattle.sheets.specs.Lines.{before, lines}

-- lines one after another make the text again
unfoldable pub joined : List (List ℕ) → List ℕ
joined [] = []
joined (l ∷ ls) = l ++ joined ls

joined-before : (b : ℕ) (ls : List (List ℕ)) → joined (before b ls) ≡ b ∷ joined ls
unfolding before joined
joined-before b [] = refl
joined-before b (l ∷ ls) = refl

pub joined-lines : (s : List ℕ) → joined (lines s) ≡ s
unfolding lines joined
joined-lines [] = refl
joined-lines (b ∷ s) =
    by_test (eqb b 10) (λ e. rw (e, lines) (ap (λ (x : List ℕ). b ∷ x) (joined-lines s)))
    (λ e. rw (e, lines) (joined-before b (lines s) ∙ ap (λ (x : List ℕ). b ∷ x) (joined-lines s)))

-- of a text that is not empty there is a first line
some_line : (ls : List (List ℕ)) (s : List ℕ) → joined ls ≡ s → 0 < length s
    → (l : List ℕ) × (rest : List (List ℕ)) × (ls ≡ l ∷ rest) × (s ≡ l ++ joined rest)
unfolding joined
some_line [] s e h = absurd (omega (arith, ap length e))
some_line (l ∷ rest) s e h = (l, rest, refl, sym e)

pub lines_some : (s : List ℕ) → 0 < length s → (l : List ℕ) × (rest : List (List ℕ)) × (lines s ≡ l ∷ rest) × (s ≡ l ++ joined rest)
lines_some s h = some_line (lines s) s (joined-lines s) h

-- no line feed stands in the text
abbrev pub Unbroken : List ℕ → Type 0
Unbroken [] = Unit {0}
Unbroken (b ∷ s) = (b ≡ 10 → ⊥) × Unbroken s

-- a text without a line feed and then one is the first line
pub lines-line : (l s : List ℕ) → Unbroken l → lines ((l ++ (10 ∷ [])) ++ s) ≡ (l ++ (10 ∷ [])) ∷ lines s
unfolding lines before
lines-line [] s u = refl
lines-line (b ∷ l) s u = rw (ne_eqb b 10 u.0, lines) (ap (before b) (lines-line l s u.1))

pub unbroken_append : (a b : List ℕ) → Unbroken a → Unbroken b → Unbroken (a ++ b)
unbroken_append [] b u v = v
unbroken_append (x ∷ a) b u v = (u.0, unbroken_append a b u.1 v)

-- digits have none
pub unbroken_digits : (ds : List ℕ) → All Digit ds → Unbroken ds
unbroken_digits [] d = tt
unbroken_digits (b ∷ ds) d = (λ e. omega arith, unbroken_digits ds d.1)

-- and of a text that is written out a test tells
abbrev pub feedless : List ℕ → Bool
feedless [] = true
feedless (b ∷ s) = cond (eqb b 10) false (feedless s)

pub unbroken_by : (s : List ℕ) → feedless s ≡ true → Unbroken s
unbroken_by [] e = tt
unbroken_by (b ∷ s) e =
    by_test (eqb b 10) (λ t. let z = rw t at e in absurd (false≢true z)) (λ f. (eqb-false b 10 f, unbroken_by s (rw f at e)))
