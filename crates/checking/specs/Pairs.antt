-- What is known of a list, its index and its cycle where a table is checked against it. Assumes nothing.
use Rattle.std.specs.Prelude.{◌≡◌, List, [], ◌∷◌, ℕ}
use Rattle.std.specs.Coded.{×_prop, Unit-prop}
use Rattle.std.proofs.Props.{props}
use Rattle.logic.specs.Lists.{All}
use Rattle.flows.specs.declared.flow.Flow.{Flow}
use Rattle.lists.specs.Lists.{flows_of}
use Rattle.lists.specs.Facts.{cycle}
use Rattle.lists.specs.Accepted.{Distinct, Related, Accepted}
use Rattle.finding.specs.declared.Index.{Index}
use Rattle.finding.specs.Parts.{Indexed}

-- the list is accepted, the index notes all its records, and c is its cycle
pub record Sound (l : List ℕ) (index : Index) (c : ℕ) : Type 0 where
  pub accepted : Accepted (flows_of l)
  pub indexed : Indexed (flows_of l) index
  pub own : c ≡ cycle (flows_of l)

-- ---- each of these facts has one proof at most

All-prop : {A : Type 0} (P : A → Type 0) → ((x : A) → IsProp (P x)) → (xs : List A) → IsProp (All P xs)
All-prop P h [] = Unit-prop
All-prop P h (x ∷ xs) = ×_prop (h x) (All-prop P h xs)

Distinct-prop : (fs : List Flow) → IsProp (Distinct fs)
Distinct-prop [] = Unit-prop
Distinct-prop (f ∷ fs) = ×_prop (All-prop _ (λ g. Prim.hlevel props) fs) (Distinct-prop fs)

Related-prop : (fs : List Flow) → IsProp (Related fs)
Related-prop [] = Unit-prop
Related-prop (f ∷ fs) = ×_prop (All-prop _ (λ g. Prim.hlevel props) fs) (Related-prop fs)

pub Sound-prop : (l : List ℕ) (index : Index) (c : ℕ) → IsProp (Sound l index c)
Sound-prop l index c = Prim.hlevel (props, All-prop, Distinct-prop, Related-prop)
