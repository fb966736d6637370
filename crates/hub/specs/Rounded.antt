-- What a list becomes when its intervals are rounded to a base, in document 02's words (L3). Assumes nothing.
use Rattle.std.specs.Prelude.{◌≡◌, List, ℕ}
use Rattle.refusals.specs.Results.{Passed}
use Rattle.lists.specs.Lists.{flows_of}
use Rattle.lists.specs.Tests.{tests1to5}
use Rattle.bases.specs.Becomes.{EachBecomes}

-- the list l' that comes of rounding the list l to the base c
pub record Rounded (c : ℕ) (l l' : List ℕ) : Type 0 where
  -- "each interval becomes the largest c times a power of two not above it, the size stays, and the jitter is capped at the new
  -- interval less one"
  pub becomes : EachBecomes c (flows_of l) (flows_of l')
  -- it passes 1 to 5
  pub passes : tests1to5 l' ≡ Passed
