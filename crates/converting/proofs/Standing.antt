-- What stands at a run's front, by its first bytes. Assumes nothing.
use Rattle.std.proofs.Common.{◌≡◌, ℕ, ◌≤◌, ◌<◌, List, [], ◌∷◌, length, take, drop, arith}
use Rattle.settings.specs.Runs.{holds, broken, items}
use Rattle.settings.proofs.Runs.{items-odd, items-holds, items-past}

-- one byte is left
pub front_odd : (s rest : List ℕ) (t : ℕ) → s ≡ t ∷ rest → length rest ≡ 0 → items s ≡ broken ∷ []
front_odd s [] t e h = rw e (items-odd t)
front_odd s (z ∷ rest) t e h = absurd (omega (arith, h))

module _ (s rest value : List ℕ) (t z : ℕ) (first : s ≡ t ∷ rest) (second : rest ≡ z ∷ value) where
  -- the length goes past the end
  pub front_past : length value < z → items s ≡ broken ∷ []
  front_past h = rw (first, second) (items-past t z value h)

  -- or does not
  pub front_holds : z ≤ length value → items s ≡ holds t (take z value) ∷ items (drop z value)
  front_holds h = rw (first, second) (items-holds t z value h)
