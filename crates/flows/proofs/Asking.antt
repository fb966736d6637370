-- A flow out of four plain numbers, of any size. Assumes nothing.
use Rattle.std.proofs.Common.{◌≡◌, ℕ, Bool, true, false, cond, Some, None, arith, refl}
use Rattle.flows.specs.declared.flow.Flow.{Flow}
use Rattle.flows.specs.Flows.{keeps, asked}

-- what the answer says
pub asked_kept : (f g : Flow) → asked f ≡ Some g → (f ≡ g) × (keeps f ≡ true)
asked_kept f g e = go (keeps f) refl e
  where
    go : (b : Bool) → keeps f ≡ b → cond b (Some f) None ≡ Some g → (f ≡ g) × (keeps f ≡ true)
    go true k q = (cc, k)
    go false k q = let z : ◌≡◌ {A = ℕ} 0 1 = cc in absurd (omega arith)

pub asked-broken : (f : Flow) → asked f ≡ None → keeps f ≡ false
asked-broken f e = go (keeps f) refl e
  where
    go : (b : Bool) → keeps f ≡ b → cond b (Some f) None ≡ None → keeps f ≡ false
    go true k q = let z : ◌≡◌ {A = ℕ} 0 1 = cc in absurd (omega arith)
    go false k q = k
