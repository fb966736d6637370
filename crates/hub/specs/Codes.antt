-- What the C interface answers: a number, and values through pointers. Assumes nothing.
use Rattle.std.specs.Prelude.{ℕ, ◌-◌, Result, Ok, Err}
use Rattle.windows.specs.declared.stretch.Edges.{Edges}
use Rattle.refusals.specs.declared.Refusal.{Refusal}
use Rattle.refusals.specs.Results.{Checked, Written}
use Rattle.refusals.specs.Refusals.{number, place}

-- 0 when the work is done, otherwise the refusal's number
abbrev pub code : {A : Type 0} → Result A Refusal → ℕ
code (Ok x) = 0
code (Err r) = number r

-- done, how many bytes stand at the room's front, or the offset of a flow that is added; refused, the place
abbrev pub value : Written → ℕ
value (Ok n) = n
value (Err r) = place r

-- the check: 0 when the table passes, otherwise the place
abbrev pub check_value : Checked → ℕ
check_value (Ok tt) = 0
check_value (Err r) = place r

-- where a window's stretch starts, in bytes from the table's front; refused, the front
abbrev pub window_first : Result Edges Refusal → ℕ
window_first (Ok edges) = edges.start
window_first (Err r) = 0

-- how many bytes it has
abbrev pub window_bytes : Result Edges Refusal → ℕ
window_bytes (Ok edges) = edges.end - edges.start
window_bytes (Err r) = 0
