-- `tables::form::first_fault` meets its contract.
-- Assumes nothing.
use Rattle.std.proofs.Common.{arith, sym, ◌∙◌}
use Rattle.tables.proofs.Records.{start_small}
use Rattle.tables.proofs.Walk.{records-start, records_spare, records-next, records_stop, records_end}
use Rattle.tables.proofs.form.first_fault.Goals as goal

pub loop-i-init : goal.loop-i-init
loop-i-init c = records-start c.args.table.now c.args.n

pub returns-then-spare-ne0 : goal.returns-then-spare-ne0
returns-then-spare-ne0 c =
    let v = c.loop-i in
    sym (records_spare c.args.table.now v.i c.args.n (omega arith) v.least _ c.values_at.ensures c.if-spare-ne0.true) ∙ v.invariant

pub returns-then-start-least : goal.returns-then-start-least
returns-then-start-least c =
    let v = c.loop-i in
    c.not_rising.ensures ∙ sym (records_stop c.args.table.now v.i c.args.n (omega arith) v.least _ c.values_at.ensures c.if-spare-ne0.false c.if-start-least.true) ∙ v.invariant

pub overflow_add-least : goal.overflow_add-least
overflow_add-least c = record { fits = omega (arith, start_small _ _ _ c.values_at.ensures) }

pub loop-i-preserved : goal.loop-i-preserved
loop-i-preserved c =
    let v = c.loop-i in
    sym (records-next c.args.table.now v.i c.args.n (omega arith) v.least _ c.values_at.ensures c.if-spare-ne0.false c.if-start-least.false) ∙ v.invariant

pub returns : goal.returns
returns c = sym (records_end c.args.table.now c.loop-i.i c.args.n (omega arith) c.loop-i.least) ∙ c.loop-i.invariant
