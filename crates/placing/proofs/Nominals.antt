-- The nominal times of one flow in a layout. Assumes nothing.
use mathlib.Core.Path.{◌≡◌, refl, sym, ap}
use mathlib.Core.Bool.{true, false}
use mathlib.Core.List.{List, [], ◌∷◌, ◌++◌, map, append_assoc, map-append}
use Prim.Native.Nat.{ℕ, zero, suc, ◌+◌, ◌*◌}
use native.Mathlib.Omega.{arith}
use lib.Dec.{eqb}
use lib.ListN.{length, length-append}
use borrow.Author.Tests.{eq-eqb, ne_eqb}
use Rattle.logic.specs.Lists.{sum}
use Rattle.logic.proofs.Tests.{by_test, by_eq}
use Rattle.logic.proofs.Progressions.{progression, later, progression-later, progression-append}
use Rattle.flows.specs.declared.flow.Flow.{Flow}
use Rattle.lists.specs.Facts.{occupies}
use Rattle.law.proofs.Counting.{mark, mark_same, mark-other}
use Rattle.placing.specs.Rule.{Settled, Frame, content, past, olds, rep, settle}
use Rattle.placing.proofs.Placed.{newly}
use Rattle.placing.proofs.Layouts.{granted, settled}

-- the nominal times of flow n in a frame that starts at a
unfoldable pub nominals_in : ℕ → ℕ → List Settled → List ℕ
nominals_in n a [] = []
nominals_in n a (g ∷ h) =
    elim (eqb g.flow.number n) [ true ↦ (a + g.base) ∷ nominals_in n (a + occupies g.flow) h | false ↦ nominals_in n (a + occupies g.flow) h ]

-- in a layout that starts at a
unfoldable pub nominals : ℕ → ℕ → ℕ → List (List Settled) → List ℕ
nominals φ n a [] = []
nominals φ n a (h ∷ hs) = nominals_in n a h ++ nominals φ n (a + φ) hs

-- 1 for the flow of the number n, 0 for any other
abbrev pub numbered : ℕ → Flow → ℕ
numbered n f = mark n f.number

-- ---- how many they are

in_length : (n a : ℕ) (h : List Settled) → length (nominals_in n a h) ≡ sum (λ (g : Settled). numbered n g.flow) h
unfolding nominals_in sum
in_length n a [] = refl
in_length n a (g ∷ h) =
    let ih = in_length n (a + occupies g.flow) h in
    by_eq g.flow.number n
    (λ e. rw (eq-eqb g.flow.number n e, nominals_in) (omega (arith, mark_same n g.flow.number (sym e))))
    (λ e. rw (ne_eqb g.flow.number n e, nominals_in) (omega (arith, mark-other n g.flow.number (λ q. e (sym q)))))

pub nominals-length : (φ n a : ℕ) (hs : List (List Settled)) → length (nominals φ n a hs) ≡ granted (numbered n) hs
unfolding nominals granted sum
nominals-length φ n a [] = refl
nominals-length φ n a (h ∷ hs) =
    omega (arith, length-append (nominals_in n a h) (nominals φ n (a + φ) hs), in_length n a h, nominals-length φ n (a + φ) hs)

-- ---- a layout later by d, and one behind another

in_later : (n a d : ℕ) (h : List Settled) → nominals_in n (a + d) h ≡ later d (nominals_in n a h)
unfolding nominals_in
in_later n a d [] = refl
in_later n a d (g ∷ h) =
    let e : a + d + occupies g.flow ≡ a + occupies g.flow + d = omega arith in
    let k : a + d + g.base ≡ a + g.base + d = omega arith in
    let ih : nominals_in n (a + d + occupies g.flow) h ≡ later d (nominals_in n (a + occupies g.flow) h) = rw e (in_later n (a + occupies g.flow) d h) in
    by_test (eqb g.flow.number n)
    (λ q. rw (q, nominals_in) (rw k (ap (λ (l : List ℕ). (a + g.base + d) ∷ l) ih)))
    (λ q. rw (q, nominals_in) ih)

nominals-later : (φ n a d : ℕ) (hs : List (List Settled)) → nominals φ n (a + d) hs ≡ later d (nominals φ n a hs)
unfolding nominals
nominals-later φ n a d [] = refl
nominals-later φ n a d (h ∷ hs) =
    let e : a + d + φ ≡ a + φ + d = omega arith in
    rw (e, in_later n a d h, nominals-later φ n (a + φ) d hs) (sym (map-append (λ t. t + d) (nominals_in n a h) (nominals φ n (a + φ) hs)))

nominals-append : (φ n a : ℕ) (gs hs : List (List Settled)) → nominals φ n a (gs ++ hs) ≡ nominals φ n a gs ++ nominals φ n (a + length gs * φ) hs
unfolding nominals
nominals-append φ n a [] hs = let e : a + 0 * φ ≡ a = omega arith in rw e
nominals-append φ n a (g ∷ gs) hs =
    let e : a + length (g ∷ gs) * φ ≡ a + φ + length gs * φ = omega arith in
    rw (e, nominals-append φ n (a + φ) gs hs) (sym (append_assoc (nominals_in n a g) (nominals φ n (a + φ) gs) (nominals φ n (a + φ + length gs * φ) hs)))

-- equal steps go on in a repeated layout
pub nominals-rep : (φ n a t i k m : ℕ) (hs : List (List Settled)) → nominals φ n a hs ≡ progression t i k → k * i ≡ length hs * φ
    → nominals φ n a (rep m hs) ≡ progression t i (m * k)
unfolding rep nominals progression
nominals-rep φ n a t i k zero hs p h = let e : 0 * k ≡ 0 = omega arith in rw e
nominals-rep φ n a t i k (suc m) hs p h =
    let e : suc m * k ≡ k + m * k = omega arith in
    rw (
      nominals-append φ n a hs (rep m hs),
      p,
      nominals-later φ n a (length hs * φ) (rep m hs),
      nominals-rep φ n a t i k m hs p h,
      progression-later (length hs * φ) t i (m * k),
      ← h,
      progression-append t i k (m * k),
      e,
    )

-- ---- the flows of other groups keep theirs when a group ends

in_settled : (n a o : ℕ) (h : List Settled) (fs : List Flow) → sum (numbered n) fs ≡ 0 → nominals_in n a (h ++ map (settled o) fs) ≡ nominals_in n a h
unfolding nominals_in sum
in_settled n a o [] [] z = refl
in_settled n a o [] (f ∷ fs) z =
    by_eq f.number n
    (λ e. absurd (omega (arith, mark_same n f.number (sym e))))
    (λ e. rw (ne_eqb f.number n e, nominals_in) (in_settled n (a + occupies f) o [] fs (omega arith)))
in_settled n a o (g ∷ h) fs z =
    let ih = in_settled n (a + occupies g.flow) o h fs z in
    by_test (eqb g.flow.number n) (λ e. rw (e, nominals_in) (rw ih)) (λ e. rw (e, nominals_in) ih)

pub nominals-settle : (φ n a o : ℕ) (xs : List Frame) → newly (numbered n) xs ≡ 0 → nominals φ n a (settle φ o xs) ≡ nominals φ n a (olds xs)
unfolding nominals settle newly olds sum
nominals-settle φ n a o [] z = refl
nominals-settle φ n a o (x ∷ xs) z =
    rw (in_settled n a o x.old x.new (omega arith), nominals-settle φ n (a + φ) (past φ o (content x)) xs (omega arith))
