-- Grants that share no slot stand one after another, and those that do share none. Assumes nothing.
use mathlib.Core.Path.{◌≡◌, sym, ap, ◌∙◌}
use mathlib.Core.Logic.{◌⊎◌, inl, inr, ⊎_elim}
use mathlib.Core.List.Memᴰ
use mathlib.Core.List.{List, [], ◌∷◌}
use Prim.Native.Nat.{ℕ, ◌+◌, ◌≤◌, ◌<◌}
use native.Mathlib.Omega.{arith}
use borrow.Author.Tests.{lt-ltb, le-ltb}
use Rattle.logic.specs.Lists.{All}
use Rattle.logic.proofs.Tests.{by_lt}
use Rattle.logic.proofs.Members.{Mem, by_mem, mem_all}
use Rattle.flows.specs.declared.flow.Flow.{Flow}
use Rattle.tables.specs.declared.packed.Grant.{Grant}
use Rattle.law.specs.Check.{slots}
use Rattle.law.proofs.Chains.{Chain}
use Rattle.offsets.specs.Offsets.{insert}

-- one ends where the other starts, or earlier
abbrev pub Apart : List Flow → Grant → Grant → Type 0
Apart fs n g = (n.start + slots fs n ≤ g.start) ⊎ (g.start + slots fs g ≤ n.start)

-- apart, if they are of different flows
abbrev pub Cleared : List Flow → Grant → Grant → Type 0
Cleared fs n g = (n.flow ≡ g.flow → ⊥) → Apart fs n g

-- a grant apart from all of a chain is put into it
pub insert_chain : (fs : List Flow) (n : Grant) (a b : ℕ) (gs : List Grant) → All (λ g. 0 < slots fs g) gs → Chain fs a b gs → a ≤ n.start → n.start + slots fs n ≤ b
    → All (Apart fs n) gs → Chain fs a b (insert n gs)
unfolding insert
insert_chain fs n a b [] s c h i p = (h, i)
insert_chain fs n a b (g ∷ gs) s c h i p =
    by_lt g.start n.start
    (λ l. rw (lt-ltb g.start n.start l)
    (c.0, insert_chain fs n (g.start + slots fs g) b gs s.1 c.1 (⊎_elim (λ q. absurd (omega arith)) (λ q. q) p.0) i p.1))
    (λ l. rw (le-ltb g.start n.start l) (h, (⊎_elim (λ q. q) (λ q. absurd (omega (arith, s.0))) p.0, c.1)))

-- every grant of a chain starts where it begins or later
chain_from : (fs : List Flow) (a b : ℕ) (gs : List Grant) → Chain fs a b gs → (g : Grant) → Mem g gs → a ≤ g.start
chain_from fs a b [] c g m = absurd (Memᴰ.not-nil m)
chain_from fs a b (h ∷ gs) c g m =
    by_mem m
    (λ e. omega (arith, c.0, ap (λ (x : Grant). x.start) e))
    (λ k. omega (arith, c.0, chain_from fs (h.start + slots fs h) b gs c.1 g k))

-- two grants of a chain
chain_apart : (fs : List Flow) (a b : ℕ) (gs : List Grant) → Chain fs a b gs → (n g : Grant) → Mem n gs → Mem g gs → Cleared fs n g
chain_apart fs a b [] c n g m k d = absurd (Memᴰ.not-nil m)
chain_apart fs a b (h ∷ gs) c n g m k d =
    by_mem m
    (λ p.
    by_mem k
    (λ q. absurd (d (ap (λ (x : Grant). x.flow) (p ∙ sym q))))
    (λ q. rw p (inl (chain_from fs (h.start + slots fs h) b gs c.1 g q))))
    (λ p.
    by_mem k
    (λ q. rw q (inr (chain_from fs (h.start + slots fs h) b gs c.1 n p)))
    (λ q. chain_apart fs (h.start + slots fs h) b gs c.1 n g p q d))

pub chain_cleared : (fs : List Flow) (a b : ℕ) (gs : List Grant) → Chain fs a b gs → All (λ n. All (Cleared fs n) gs) gs
chain_cleared fs a b gs c = mem_all (λ n. All (Cleared fs n) gs) gs (λ n m. mem_all (Cleared fs n) gs (λ g k. chain_apart fs a b gs c n g m k))
