-- What a rounded flow must be, in document 02's words (L3) and without saying how it is found. Assumes nothing.
use Rattle.std.specs.Prelude.{◌≡◌, List, [], ◌∷◌, ℕ, ◌*◌, ◌^◌, ◌≤◌, ◌<◌}
use Rattle.flows.specs.declared.flow.Flow.{Flow}

-- y is "the largest c times a power of two not above" x
pub record Largest (c x y : ℕ) : Type 0 where
  -- "c times a power of two"
  pub power : ℕ
  pub times_power : y ≡ c * 2 ^ power
  -- "not above it"
  pub not_above : y ≤ x
  -- "the largest"
  pub largest : (k : ℕ) → c * 2 ^ k ≤ x → c * 2 ^ k ≤ y

-- the flow f becomes the flow g for the base c
pub record Becomes (c : ℕ) (f g : Flow) : Type 0 where
  pub same_number : g.number ≡ f.number
  -- "each interval becomes the largest c times a power of two not above it"
  pub new_interval : Largest c f.interval g.interval
  -- "the size stays"
  pub same_size : g.size ≡ f.size
  -- "the jitter is capped at the new interval less one": it is no more than it was and below the new interval, and the most that is both
  pub jitter_within : g.jitter ≤ f.jitter
  pub jitter_capped : g.jitter < g.interval
  pub jitter_most : (j : ℕ) → j ≤ f.jitter → j < g.interval → j ≤ g.jitter

-- each flow becomes the one at its place
abbrev pub EachBecomes : ℕ → List Flow → List Flow → Type 0
EachBecomes c [] gs = gs ≡ []
EachBecomes c (f ∷ fs) gs = (g : Flow) × (rest : List Flow) × (gs ≡ g ∷ rest) × Becomes c f g × EachBecomes c fs rest
