-- `tables::form::spared` meets its contract.
-- Assumes nothing.
use mathlib.Core.Path.{refl, sym, ◌∙◌}
use native.Mathlib.Omega.{arith}
use Rattle.tables.proofs.Walk.{spared-next, spared_stop, spared_end}
use Rattle.tables.proofs.form.spared.Goals as goal

pub loop-i-init : goal.loop-i-init
loop-i-init c = refl

pub returns-then-spare_at-ne0 : goal.returns-then-spare_at-ne0
returns-then-spare_at-ne0 c =
    let v = c.loop-i in
    let a = c.args in
    sym (spared_stop a.table.now v.i a.n (omega arith) (rw c.spare_at.ensures at c.if-spare_at-ne0.true)) ∙ v.invariant

pub loop-i-preserved : goal.loop-i-preserved
loop-i-preserved c =
    let v = c.loop-i in
    let a = c.args in
    sym (spared-next a.table.now v.i a.n (omega arith) (sym c.spare_at.ensures ∙ c.if-spare_at-ne0.false)) ∙ v.invariant

pub returns : goal.returns
returns c =
    let v = c.loop-i in
    let a = c.args in
    sym (spared_end a.table.now v.i a.n (omega arith)) ∙ v.invariant
