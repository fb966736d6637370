-- The bits of the numbers tell whether an earlier record has a number. Assumes nothing.
use mathlib.Core.Path.{◌≡◌, refl, sym, ap, ◌∙◌}
use mathlib.Core.Bool.{Bool, not, ◌&&◌}
use mathlib.Core.List.{List, []}
use Prim.Native.Nat.{ℕ, ◌+◌, ◌/◌, ◌<◌}
use native.Mathlib.Omega.{arith}
use lib.Dec.{eqb}
use lib.ListN.{length, replicate}
use borrow.Author.Tests.{eq-eqb, ne_eqb}
use Rattle.logic.specs.Lists.{every}
use Rattle.logic.proofs.Tests.{by_eq}
use Rattle.marks.specs.Marks.{bit, marked, Marks}
use Rattle.marks.proofs.Marking.{none-marked}
use Rattle.flows.specs.declared.flow.Flow.{Flow}
use Rattle.flows.specs.Flows.{no_flow}
use Rattle.refusals.proofs.Walks.{before}
use Rattle.lists.specs.Lists.{count, flow_at, flows_of}
use Rattle.pairing.proofs.Verdicts.{record_small, every_more}

-- a number is not marked exactly where none of some records has it
abbrev pub Noted : List ℕ → List Flow → Type 0
Noted bits fs = (y : ℕ) → not (marked bits y) ≡ every (λ f. not (eqb f.number y)) fs

-- where all bytes are 0, there are no records
pub noted-none : Noted (replicate 128 0) []
unfolding every
noted-none y = rw (none-marked 128 y) refl

-- a record more, by whose number one more is marked
pub noted_more : (l : List ℕ) (i : ℕ) (f : Flow) (xs ys : List ℕ) → i < count l → f ≡ flow_at l i → length xs ≡ 128
    → Noted xs (before (flows_of l) no_flow i) → Marks xs f.number 1 ys → Noted ys (before (flows_of l) no_flow (i + 1))
noted_more l i f xs ys h e long n m y =
    marked_more ∙ ap (λ (b : Bool). not (eqb f.number y) && b) (n y) ∙ sym (every_more (λ g. not (eqb g.number y)) l i f h e)
  where
    byte : f.number / 8 < length xs
    byte = let small : f.number < 1024 = rw e (record_small l i).0 in omega (arith, small, long)

    marked_more : not (marked ys y) ≡ not (eqb f.number y) && not (marked xs y)
    marked_more = by_eq f.number y
        (λ u. let one : bit ys y ≡ 1 = m.all byte y (omega arith) (omega arith) in rw (one, eq-eqb f.number y u) refl)
        (λ u. let same : bit ys y ≡ bit xs y = m.rest y (λ w. u (omega (arith, w.0, w.1))) in rw (same, ne_eqb f.number y u) refl)
