-- The grants of one flow. Assumes nothing.
use mathlib.Core.Path.{◌≡◌, sym, ap}
use mathlib.Core.List.Memᴰ
use mathlib.Core.List.{List, [], ◌∷◌}
use Prim.Native.Nat.{ℕ}
use lib.Dec.{eqb}
use borrow.Author.Tests.{eqb-true, eqb-false, eq-eqb, ne_eqb}
use Rattle.logic.specs.Lists.{All}
use Rattle.logic.proofs.Tests.{by_test}
use Rattle.logic.proofs.Members.{Mem, by_mem}
use Rattle.tables.specs.declared.packed.Grant.{Grant}
use Rattle.law.specs.Check.{to}

-- one grant more, the flow's own or another's
module _ (x : ℕ) (g : Grant) (gs : List Grant) where
  pub to-own : g.flow ≡ x → to x (g ∷ gs) ≡ g ∷ to x gs
  unfolding to
  to-own e = rw (eq-eqb g.flow x e, to)

  pub to-other : (g.flow ≡ x → ⊥) → to x (g ∷ gs) ≡ to x gs
  unfolding to
  to-other e = rw (ne_eqb g.flow x e, to)

-- what holds of the table holds of a flow's grants, which have its number
pub to-all : (P : Grant → Type 0) (x : ℕ) (rs : List Grant) → All P rs → All (λ r. P r × (r.flow ≡ x)) (to x rs)
unfolding to
to-all P x [] a = tt
to-all P x (r ∷ rs) a =
    by_test (eqb r.flow x)
    (λ e. rw (e, to) ((a.0, eqb-true r.flow x e), to-all P x rs a.1))
    (λ e. rw (e, to) (to-all P x rs a.1))

-- a grant is among those of its flow
pub mem_to : (r : Grant) (rs : List Grant) → Mem r rs → Mem r (to r.flow rs)
unfolding to
mem_to r [] m = absurd (Memᴰ.not-nil m)
mem_to r (q ∷ rs) m =
    by_test (eqb q.flow r.flow)
    (λ e. rw (e, to) (by_mem m (λ p. Memᴰ.head p) (λ k. Memᴰ.tail (mem_to r rs k))))
    (λ e. rw (e, to)
    (by_mem m
    (λ p. absurd (eqb-false q.flow r.flow e (ap (λ (y : Grant). y.flow) (sym p))))
    (λ k. mem_to r rs k)))
