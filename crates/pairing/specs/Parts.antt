-- What the code's own parts answer: tests 5 and 6 together, and the intervals kept of the earlier records. Assumes nothing.
use Rattle.std.specs.Prelude.{◌≡◌, Bool, true, ◌&&◌, List, ℕ, ◌+◌, ◌<◌, Option, Some, None, length, get_or}
use Rattle.std.specs.List.{list_all}
use Rattle.std.specs.Int.Count.{count_leading_zeros}
use Rattle.flows.specs.declared.flow.Flow.{Flow}
use Rattle.flows.specs.Flows.{no_flow}
use Rattle.refusals.specs.declared.Refusal.TheVariants.{UsedNumber, Unrelated}
use Rattle.refusals.specs.Results.{Checked}
use Rattle.refusals.specs.Tests.{◌⟫◌, unless}
use Rattle.refusals.proofs.Walks.{before}
use Rattle.lists.specs.Facts.{related}
use Rattle.lists.specs.Tests.{new_number, test5, related_interval, test6}

-- tests 5 and 6, in their order
abbrev pub pair_tests : List Flow → Checked
pair_tests fs = test5 fs ⟫ test6 fs

-- tests 5 and 6 of one flow more, in their order, behind records that pass them
abbrev pub new_pair_tests : List Flow → Flow → Checked
new_pair_tests fs f =
    let seen = before fs no_flow (length fs) in
    unless (new_number seen f) (UsedNumber (length fs + 1)) ⟫ unless (related_interval seen f) (Unrelated (length fs + 1))

-- a cell of the kept intervals has none, or one that is related to x
abbrev pub agrees_with_cell : ℕ → Option ℕ → Bool
agrees_with_cell x None = true
agrees_with_cell x (Some y) = related y x

-- x is related to every interval kept in the cells
abbrev pub related_to_kept : List (Option ℕ) → ℕ → Bool
related_to_kept cells x = list_all (agrees_with_cell x) cells

-- the kept intervals: each in the cell of its leading zeros in 16 bits, and related to all of them
pub record Chain (cells : List (Option ℕ)) : Type 0 where
  pub all : length cells ≡ 17
  pub small : (j y : ℕ) → get_or cells j None ≡ Some y → y < 65536
  pub own : (j y : ℕ) → get_or cells j None ≡ Some y → count_leading_zeros 16 y ≡ j
  pub related : (j y : ℕ) → get_or cells j None ≡ Some y → related_to_kept cells y ≡ true

-- the intervals kept in ys are those of xs and x
pub record Kept (xs : List (Option ℕ)) (x : ℕ) (ys : List (Option ℕ)) : Type 0 where
  pub chain : Chain ys
  pub more : (y : ℕ) → related_to_kept ys y ≡ related x y && related_to_kept xs y
