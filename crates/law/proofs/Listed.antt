-- The flow of a number. Assumes nothing.
use mathlib.Core.Path.{◌≡◌, refl, sym, ap, ◌∙◌}
use mathlib.Core.Bool.{true, false}
use mathlib.Core.List.Memᴰ
use mathlib.Core.List.{List, [], ◌∷◌}
use Prim.Native.Nat.{ℕ, ◌<◌}
use lib.Dec.{eqb}
use borrow.Author.Tests.{eqb-true, eq-eqb, ne_eqb}
use Rattle.logic.specs.Lists.{All}
use Rattle.logic.proofs.Tests.{by_test, true-not-false}
use Rattle.logic.proofs.Members.{Mem, by_mem, all_mem, all_imp}
use Rattle.flows.specs.declared.flow.Flow.{Flow}
use Rattle.lists.specs.Facts.{occupies}
use Rattle.lists.specs.Accepted.{Distinct}
use Rattle.tables.specs.declared.packed.Grant.{Grant}
use Rattle.law.specs.Check.{known, look, slots}

-- the flow of a known number stands in the list and has that number
pub known_mem : (fs : List Flow) (x : ℕ) → known fs x ≡ true → Mem (look fs x) fs × ((look fs x).number ≡ x)
unfolding known look
known_mem [] x h = true-not-false (sym h)
known_mem (f ∷ fs) x h =
    by_test (eqb f.number x)
    (λ e. rw (e, look) (Memᴰ.head refl, eqb-true f.number x e))
    (λ e. let ih = known_mem fs x (rw (e, known) at h) in rw (e, look) (Memᴰ.tail ih.0, ih.1))

pub mem_known : (fs : List Flow) (f : Flow) → Mem f fs → known fs f.number ≡ true
unfolding known
mem_known [] f m = absurd (Memᴰ.not-nil m)
mem_known (g ∷ fs) f m =
    by_test (eqb g.number f.number)
    (λ e. rw (e, known))
    (λ e. rw (e, known) (by_mem m (λ q. true-not-false (sym (eq-eqb g.number f.number (ap (λ (y : Flow). y.number) (sym q))) ∙ e)) (λ k. mem_known fs f k)))

-- a flow of the list is the flow of its number
pub look_mem : (fs : List Flow) → Distinct fs → (f : Flow) → Mem f fs → look fs f.number ≡ f
unfolding look
look_mem [] d f m = absurd (Memᴰ.not-nil m)
look_mem (g ∷ fs) d f m =
    by_mem m
    (λ q. let e : eqb g.number f.number ≡ true = eq-eqb g.number f.number (ap (λ (y : Flow). y.number) (sym q)) in rw (e, look) (sym q))
    (λ k.
    let e : eqb g.number f.number ≡ false = ne_eqb g.number f.number (all_mem (λ h. g.number ≡ h.number → ⊥) fs d.0 f k) in
    rw (e, look) (look_mem fs d.1 f k))

-- each grant of a known flow takes a slot
pub slots_pos : (fs : List Flow) (rs : List Grant) → All (λ f. 0 < occupies f) fs → All (λ r. known fs r.flow ≡ true) rs → All (λ r. 0 < slots fs r) rs
unfolding slots
slots_pos fs rs s = all_imp (λ r. known fs r.flow ≡ true) (λ r. 0 < slots fs r) rs (λ r k. all_mem (λ f. 0 < occupies f) fs s (look fs r.flow) (known_mem fs r.flow k).0)
