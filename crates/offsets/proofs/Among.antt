-- The grants of one flow, and of every other, in a table with new grants. Assumes nothing.
use mathlib.Core.Path.{◌≡◌, refl, ap, ◌∙◌}
use mathlib.Core.List.{List, [], ◌∷◌, map}
use Prim.Native.Nat.{ℕ, zero, suc, ◌+◌, ◌≤◌}
use native.Mathlib.Omega.{arith}
use lib.Dec.{eqb}
use borrow.Author.Tests.{lt-ltb, le-ltb, eqb-false, eq-eqb, ne_eqb}
use Rattle.logic.specs.Lists.{All}
use Rattle.logic.proofs.Tests.{by_test, by_lt}
use Rattle.logic.proofs.Members.{all_imp}
use Rattle.logic.proofs.Progressions.{progression}
use Rattle.flows.specs.declared.flow.Flow.{Flow}
use Rattle.tables.specs.declared.packed.Grant.{Grant}
use Rattle.law.specs.Check.{nominal, to}
use Rattle.law.proofs.FlowGrants.{to-own, to-other}
use Rattle.offsets.specs.Offsets.{grants_from, insert, joined, others}
use Rattle.offsets.proofs.Joining.{all-joined, from-after}

-- ---- one grant more at the front

module _ (x : ℕ) (g : Grant) (gs : List Grant) where
  others-own : g.flow ≡ x → others x (g ∷ gs) ≡ others x gs
  unfolding others
  others-own e = rw (eq-eqb g.flow x e, others)

  others-other : (g.flow ≡ x → ⊥) → others x (g ∷ gs) ≡ g ∷ others x gs
  unfolding others
  others-other e = rw (ne_eqb g.flow x e, others)

-- a flow without grants: none are its, all are others'
to_none : (x : ℕ) (gs : List Grant) → All (λ g. g.flow ≡ x → ⊥) gs → to x gs ≡ []
unfolding to
to_none x [] a = refl
to_none x (g ∷ gs) a = to-other x g gs a.0 ∙ to_none x gs a.1

others-all : (x : ℕ) (gs : List Grant) → All (λ g. g.flow ≡ x → ⊥) gs → others x gs ≡ gs
unfolding others
others-all x [] a = refl
others-all x (g ∷ gs) a = others-other x g gs a.0 ∙ ap (λ (rs : List Grant). g ∷ rs) (others-all x gs a.1)

-- what holds of the table holds of the other flows' grants, which have not the number
pub others_each : (P : Grant → Type 0) (x : ℕ) (gs : List Grant) → All P gs → All (λ g. P g × (g.flow ≡ x → ⊥)) (others x gs)
unfolding others
others_each P x [] a = tt
others_each P x (g ∷ gs) a =
    by_test (eqb g.flow x)
    (λ e. rw (e, others) (others_each P x gs a.1))
    (λ e. rw (e, others) ((a.0, eqb-false g.flow x e), others_each P x gs a.1))

-- ---- one grant more in its place

-- a flow's own grants, where none of them starts before it
insert-own : (x : ℕ) (n : Grant) (gs : List Grant) → n.flow ≡ x → All (λ g. g.flow ≡ x → n.start ≤ g.start) gs → to x (insert n gs) ≡ n ∷ to x gs
unfolding insert
insert-own x n [] e a = to-own x n [] e
insert-own x n (g ∷ gs) e a =
    by_lt g.start n.start
    (λ h.
    let other : g.flow ≡ x → ⊥ = λ q. omega (arith, a.0 q) in
    rw (lt-ltb g.start n.start h) (to-other x g (insert n gs) other ∙ insert-own x n gs e a.1 ∙ rw (to-other x g gs other)))
    (λ h. rw (le-ltb g.start n.start h) (to-own x n (g ∷ gs) e))

-- another flow's
insert-other : (x : ℕ) (n : Grant) (gs : List Grant) → (n.flow ≡ x → ⊥) → to x (insert n gs) ≡ to x gs
unfolding insert to
insert-other x n [] e = to-other x n [] e
insert-other x n (g ∷ gs) e =
    by_lt g.start n.start
    (λ h. rw (lt-ltb g.start n.start h)
    (by_test (eqb g.flow x)
    (λ q. rw (q, to) (ap (λ (rs : List Grant). g ∷ rs) (insert-other x n gs e)))
    (λ q. rw (q, to) (insert-other x n gs e))))
    (λ h. rw (le-ltb g.start n.start h) (to-other x n (g ∷ gs) e))

-- every other flow's
insert-others : (x : ℕ) (n : Grant) (gs : List Grant) → n.flow ≡ x → others x (insert n gs) ≡ others x gs
unfolding insert others
insert-others x n [] e = others-own x n [] e
insert-others x n (g ∷ gs) e =
    by_lt g.start n.start
    (λ h. rw (lt-ltb g.start n.start h)
    (by_test (eqb g.flow x)
    (λ q. rw (q, others) (insert-others x n gs e))
    (λ q. rw (q, others) (ap (λ (rs : List Grant). g ∷ rs) (insert-others x n gs e)))))
    (λ h. rw (le-ltb g.start n.start h) (others-own x n (g ∷ gs) e))

-- ---- new grants put among the old ones

-- a grant of the flow, not late
abbrev pub Prompt : Flow → Grant → Type 0
Prompt f g = (g.flow ≡ f.number) × (g.late ≡ 0)

pub from_prompt : (f : Flow) (x n : ℕ) → All (Prompt f) (grants_from f x n)
unfolding grants_from
from_prompt f x zero = tt
from_prompt f x (suc n) = ((refl, refl), from_prompt f (x + f.interval) n)

-- the other flows' grants stay as they are
pub joined-others : (x : ℕ) (ns gs : List Grant) → All (λ n. n.flow ≡ x) ns → All (λ g. g.flow ≡ x → ⊥) gs → others x (joined ns gs) ≡ gs
unfolding joined
joined-others x [] gs a b = others-all x gs b
joined-others x (n ∷ ns) gs a b = insert-others x n (joined ns gs) a.0 ∙ joined-others x ns gs a.1 b

-- so do those of each of them
pub joined-other : (x : ℕ) (ns gs : List Grant) → All (λ n. n.flow ≡ x → ⊥) ns → to x (joined ns gs) ≡ to x gs
unfolding joined
joined-other x [] gs a = refl
joined-other x (n ∷ ns) gs a = insert-other x n (joined ns gs) a.0 ∙ joined-other x ns gs a.1

-- and the rest are the new ones
pub joined-own : (f : Flow) (x n : ℕ) (gs : List Grant) → All (λ g. g.flow ≡ f.number → ⊥) gs → to f.number (joined (grants_from f x n) gs) ≡ grants_from f x n
unfolding joined grants_from
joined-own f x zero gs a = to_none f.number gs a
joined-own f x (suc n) gs a =
    let g : Grant = record { flow = f.number; start = x; late = 0 } in
    let ns = grants_from f (x + f.interval) n in
    insert-own f.number g (joined ns gs) refl
    (all-joined (λ g. g.flow ≡ f.number → x ≤ g.start) ns gs
    (all_imp (λ g. x ≤ g.start) (λ g. g.flow ≡ f.number → x ≤ g.start) ns (λ g h e. h) (from-after f x (suc n)).1)
    (all_imp (λ g. g.flow ≡ f.number → ⊥) (λ g. g.flow ≡ f.number → x ≤ g.start) gs (λ g h e. absurd (h e)) a))
    ∙ ap (λ (rs : List Grant). g ∷ rs) (joined-own f (x + f.interval) n gs a)

-- ---- the new flow's nominal times

pub from-times : (f : Flow) (x n : ℕ) → map (nominal 0) (grants_from f x n) ≡ progression x f.interval n
unfolding grants_from progression
from-times f x zero = refl
from-times f x (suc n) =
    let e : nominal 0 (record { flow = f.number; start = x; late = 0 }) ≡ x = omega arith in
    rw e (ap (λ (ts : List ℕ). x ∷ ts) (from-times f (x + f.interval) n))

-- grants of the flow that are not late are those from its first nominal time on
pub times-from : (f : Flow) (x n : ℕ) (gs : List Grant) → All (Prompt f) gs → map (nominal 0) gs ≡ progression x f.interval n
    → gs ≡ grants_from f x n
unfolding grants_from progression
times-from f x zero [] a e = refl
times-from f x (suc n) [] a e = let z : ◌≡◌ {A = ℕ} 0 1 = cc in absurd (omega arith)
times-from f x zero (g ∷ gs) a e = let z : ◌≡◌ {A = ℕ} 0 1 = cc in absurd (omega arith)
times-from f x (suc n) (g ∷ gs) a e =
    let q : nominal 0 g ≡ x = cc in
    let r : map (nominal 0) gs ≡ progression (x + f.interval) f.interval n = cc in
    let s : g.start ≡ x = omega arith in
    rw (← times-from f (x + f.interval) n gs a.1 r, ← s, ← a.0.0, ← a.0.1)
