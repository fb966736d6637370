-- `tables::form::spared` meets its contract.
-- Assumes nothing.
use mathlib.Core.Path.{◌≡◌}
use Prim.Native.Nat.{◌-◌}
use Rattle.tables.specs.Form.{spared}
use Rattle.tables.proofs.form.spared.Given as goal

abbrev pub invariant-loop-i : goal.invariant-loop-i
invariant-loop-i l = spared l.table l.i (l.n - l.i) ≡ spared l.table l.from (l.n - l.from)
