-- What tests and operations answer. Assumes nothing.
use Rattle.std.specs.Prelude.{ℕ, Result, Ok, Err}
use Rattle.refusals.specs.declared.Refusal.{Refusal}

-- what tests answer: nothing where all pass, or the refusal
abbrev pub Checked : Type 0
Checked = Result Unit Refusal

-- all pass
abbrev pub Passed : Checked
Passed = Ok tt

-- one refuses
abbrev pub Refused : Refusal → Checked
Refused r = Err r

-- what an operation that writes answers: how many bytes now stand at the room's front, or the refusal
abbrev pub Written : Type 0
Written = Result ℕ Refusal
