-- "A refusal is given exactly when its test is the first to find fault", and "the lowest place is named", as statements about any
-- tests. Assumes nothing.
use Rattle.std.specs.Prelude.{◌≡◌, Bool, true, false, List, [], ◌∷◌, ℕ, ◌+◌, ◌<◌, length, get_or}
use Rattle.refusals.specs.declared.Refusal.{Refusal}
use Rattle.refusals.specs.Results.{Checked, Passed, Refused}
use Rattle.refusals.specs.Tests.{◌⟫◌}

-- tests in order
unfoldable pub in_order : List Checked → Checked
in_order [] = Passed
in_order (t ∷ ts) = t ⟫ in_order ts

-- r is the refusal of the first test that finds fault: test k refuses by r, and every test before it passes
pub record FirstFault (ts : List Checked) (r : Refusal) : Type 0 where
  pub test : ℕ
  pub found : get_or ts test Passed ≡ Refused r
  pub passed_before : (j : ℕ) → j < test → get_or ts j Passed ≡ Passed

-- r names the lowest place: the entry there fails, and every entry before it passes; the first entry has the place n
pub record LowestPlace (refusal : ℕ → Refusal) (n : ℕ) (ts : List Bool) (r : Refusal) : Type 0 where
  pub entry : ℕ
  pub inside : entry < length ts
  pub fails : get_or ts entry true ≡ false
  pub passed_before : (j : ℕ) → j < entry → get_or ts j true ≡ true
  pub named : r ≡ refusal (n + entry)
