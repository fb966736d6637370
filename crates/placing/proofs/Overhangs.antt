-- The overhangs of frames, and what holds of every frame's overhang and earlier grants. Assumes nothing.
use mathlib.Core.Path.{◌≡◌, refl}
use mathlib.Core.Bool.{true, false}
use mathlib.Core.List.{List, [], ◌∷◌, ◌++◌}
use Prim.Native.Nat.{ℕ, ◌+◌, ◌≤◌}
use native.Mathlib.Omega.{arith}
use lib.Dec.{leb}
use borrow.Author.Tests.{leb-true, le-leb, eqb-true, eq-eqb}
use Rattle.logic.specs.Lists.{All}
use Rattle.logic.proofs.Tests.{by_test, true-not-false}
use Rattle.flows.specs.declared.flow.Flow.{Flow}
use Rattle.placing.specs.Rule.{Settled, Frame, content, past, within, lawful, contents, olds}

-- what passes the end of frames, of which the first has the overhang o
unfoldable pub passing : ℕ → ℕ → List Frame → ℕ
passing φ o [] = o
passing φ o (x ∷ xs) = passing φ (past φ o (content x)) xs

-- P holds of every frame's overhang and earlier grants
abbrev pub Each : (ℕ → List Settled → Type 0) → ℕ → ℕ → List Frame → Type 0
Each P φ o [] = Unit
Each P φ o (x ∷ xs) = P o x.old × Each P φ (past φ o (content x)) xs

-- with the overhang o, each grant may start e slots later still
abbrev pub Spare : ℕ → ℕ → List Settled → Type 0
Spare e o h = All (λ g. o + e ≤ g.base + g.flow.jitter) h

-- the overhang o is no less than when a grant's group ended, and the grant's flow has P
abbrev pub Based : (Flow → Type 0) → ℕ → List Settled → Type 0
Based P o h = All (λ g. (g.base ≤ o) × P g.flow) h

pub passing-append : (φ o : ℕ) (xs ys : List Frame) → passing φ o (xs ++ ys) ≡ passing φ (passing φ o xs) ys
unfolding passing
passing-append φ o [] ys = refl
passing-append φ o (x ∷ xs) ys = passing-append φ (past φ o (content x)) xs ys

pub each_append : (P : ℕ → List Settled → Type 0) (φ o : ℕ) (xs ys : List Frame) → Each P φ o xs → Each P φ (passing φ o xs) ys → Each P φ o (xs ++ ys)
unfolding passing
each_append P φ o [] ys a b = b
each_append P φ o (x ∷ xs) ys a b = (a.0, each_append P φ (past φ o (content x)) xs ys a.1 b)

-- what two overhangs are to each other in one frame, they are in the next; and so what holds of the one holds of the other
pub each_along : (S : ℕ → ℕ → Type 0) (P Q : ℕ → List Settled → Type 0) (φ : ℕ) → ((o p c : ℕ) → S o p → S (past φ o c) (past φ p c))
    → ((o p : ℕ) (h : List Settled) → S o p → P o h → Q p h) → (o p : ℕ) (xs : List Frame) → S o p → Each P φ o xs → Each Q φ p xs
each_along S P Q φ next here o p [] s a = tt
each_along S P Q φ next here o p (x ∷ xs) s a =
    (here o p x.old s a.0, each_along S P Q φ next here (past φ o (content x)) (past φ p (content x)) xs (next o p (content x) s) a.1)

-- ---- what the rule's tests say

within_spare : (o : ℕ) (h : List Settled) → within o h ≡ true → Spare 0 o h
unfolding within
within_spare o [] e = tt
within_spare o (g ∷ h) e =
    by_test (leb o (g.base + g.flow.jitter))
    (λ t. (omega (arith, leb-true o (g.base + g.flow.jitter) t), within_spare o h (rw (t, within) at e)))
    (λ t. let k : false ≡ true = rw (t, within) at e in true-not-false (cc))

pub spare_within : (e o : ℕ) (h : List Settled) → Spare e o h → within o h ≡ true
unfolding within
spare_within e o [] s = refl
spare_within e o (g ∷ h) s = rw (le-leb o (g.base + g.flow.jitter) (omega arith), within) (spare_within e o h s.1)

pub lawful_each : (φ o : ℕ) (xs : List Frame) → lawful φ o (contents xs) (olds xs) ≡ true → (passing φ o xs ≡ 0) × Each (Spare 0) φ o xs
unfolding lawful contents olds passing
lawful_each φ o [] e = (eqb-true o 0 e, tt)
lawful_each φ o (x ∷ xs) e =
    by_test (within o x.old)
    (λ t. let r = lawful_each φ (past φ o (content x)) xs (rw (t, lawful) at e) in (r.0, (within_spare o x.old t, r.1)))
    (λ t. let k : false ≡ true = rw (t, lawful) at e in true-not-false (cc))

pub each_lawful : (e φ o : ℕ) (xs : List Frame) → passing φ o xs ≡ 0 → Each (Spare e) φ o xs → lawful φ o (contents xs) (olds xs) ≡ true
unfolding lawful contents olds passing
each_lawful e φ o [] z s = eq-eqb o 0 z
each_lawful e φ o (x ∷ xs) z s = rw (spare_within e o x.old s.0, lawful) (each_lawful e φ (past φ o (content x)) xs z s.1)
