-- What the flows of a run must be to fulfil what was asked for in bytes and microseconds. Assumes nothing.
use Rattle.std.specs.Prelude.{◌≡◌, List, [], ◌∷◌, ◌++◌, ℕ, suc, ◌*◌, ◌≤◌, ◌<◌, length}
use Rattle.logic.specs.Lists.{All}
use Rattle.flows.specs.declared.flow.Flow.{Flow}
use Rattle.settings.specs.Form.{Amounts}
use Rattle.settings.specs.Slots.{Channel}

-- a flow in slots fulfils what is asked for in bytes and microseconds
pub record Fulfils (ch : Channel) (a : Amounts) (f : Flow) : Type 0 where
  -- its slots hold at least the bytes asked for, and no fewer slots do
  pub size_enough : a.size ≤ f.size * ch.bytes
  pub size_least : (n : ℕ) → a.size ≤ n * ch.bytes → f.size ≤ n
  -- its interval is exactly the microseconds asked for
  pub interval_exact : f.interval * ch.microseconds ≡ a.interval
  -- its jitter in microseconds is no more than the one asked for, and one slot more would be
  pub jitter_within : f.jitter * ch.microseconds ≤ a.jitter
  pub jitter_most : a.jitter < suc f.jitter * ch.microseconds

-- the flows are those that the amounts ask for, in their order: as many for each as it has grants per interval, each fulfilling it
abbrev pub Fulfilled : Channel → List Amounts → List Flow → Type 0
Fulfilled ch [] fs = fs ≡ []
Fulfilled ch (a ∷ rest) fs = (own : List Flow) × (others : List Flow) × (fs ≡ own ++ others) × (length own ≡ a.grants) × All (Fulfils ch a) own × Fulfilled ch rest others

-- the flows are numbered from n on as they come
abbrev pub Numbered : ℕ → List Flow → Type 0
Numbered n [] = Unit
Numbered n (f ∷ fs) = (f.number ≡ n) × Numbered (suc n) fs
