-- The flow of a number in a list with one flow more. Assumes nothing.
use mathlib.Core.Path.{◌≡◌, refl, sym}
use mathlib.Core.Bool.{true}
use mathlib.Core.List.{List, [], ◌∷◌, ◌++◌}
use Prim.Native.Nat.{ℕ}
use lib.Dec.{eqb}
use Rattle.logic.proofs.Tests.{by_test, true-not-false}
use Rattle.flows.specs.declared.flow.Flow.{Flow}
use Rattle.law.specs.Check.{known, look}

-- a known number stays that of its flow
pub look-more : (fs : List Flow) (f : Flow) (x : ℕ) → known fs x ≡ true → (known (fs ++ (f ∷ [])) x ≡ true) × (look (fs ++ (f ∷ [])) x ≡ look fs x)
unfolding known look
look-more [] f x k = true-not-false (sym k)
look-more (g ∷ fs) f x k =
    by_test (eqb g.number x)
    (λ e. rw (e, known, look) (refl, refl))
    (λ e. rw (e, known, look) (look-more fs f x (rw (e, known) at k)))
