-- What modem settings become, in document 02's words (L2). Assumes nothing.
use Rattle.std.specs.Prelude.{◌≡◌, List, ℕ}
use Rattle.refusals.specs.Results.{Passed}
use Rattle.lists.specs.Lists.{flows_of}
use Rattle.lists.specs.Tests.{test5, test6, tests1to4}
use Rattle.settings.specs.Form.{Amounts}
use Rattle.settings.specs.Slots.{Channel}
use Rattle.settings.specs.Units.{Fulfilled, Numbered}

-- the list l that comes of amounts asked for, on the channel ch
pub record Converted (ch : Channel) (asked : List Amounts) (l : List ℕ) : Type 0 where
  -- it passes 1 to 4, and of "3 to 6" also 5 and 6
  pub passes : tests1to4 l ≡ Passed
  pub new_numbers : test5 (flows_of l) ≡ Passed
  pub related_intervals : test6 (flows_of l) ≡ Passed
  -- "Size rounds up, jitter rounds down, an interval must be a whole number of slots, and several grants per interval become as many
  -- flows", "0 grants per interval gives no flow"
  pub fulfils : Fulfilled ch asked (flows_of l)
  -- "flows are numbered from 1 as they come"
  pub numbered : Numbered 1 (flows_of l)
