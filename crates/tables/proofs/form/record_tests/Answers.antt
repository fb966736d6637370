-- `tables::form::record_tests` meets its contract.
-- Assumes nothing.
use Rattle.std.proofs.Common.{◌≡◌, ◌<◌, arith, sym, ◌∙◌}
use Rattle.tables.specs.Tables.{values_at}
use Rattle.tables.proofs.Records.{start_small, length_cut, record_is}
use Rattle.tables.proofs.Walk.{records-start, records-next, records_end}
use Rattle.tables.proofs.form.record_tests.Goals as goal
use Rattle.tables.proofs.form.record_tests.Goals.{After-values_of}

-- the walk is at a record of the table
inside : (c : After-values_of) → c.loop-bytes.bytes-index < c.args.n
inside c = omega (arith, length_cut c.args.table.now c.args.n c.requires _ c.as_chunks.ensures.front)

-- and reads its values
read : (c : After-values_of) → c.values_of.result ≡ values_at c.args.table.now c.loop-bytes.bytes-index
read c = record_is c.args.table.now c.args.n c.requires _ c.as_chunks.ensures.front c.loop-bytes.bytes-index _ (inside c) c.values_of.ensures

pub loop-bytes-init : goal.loop-bytes-init
loop-bytes-init c = records-start c.args.table.now c.args.n

pub overflow_add-next : goal.overflow_add-next
overflow_add-next c = record { fits = omega (arith, start_small _ _ _ (read (goal.at.overflow_add-next c).After-values_of)) }

pub loop-bytes-preserved : goal.loop-bytes-preserved
loop-bytes-preserved c =
    let v = c.loop-bytes in
    let at = (goal.at.loop-bytes-preserved c).After-values_of in
    sym (records-next c.args.table.now v.bytes-index c.args.n (inside at) v.next _ (read at) (omega arith) (omega arith)) ∙ v.invariant

pub returns : goal.returns
returns c =
    let all = length_cut c.args.table.now c.args.n c.requires _ c.as_chunks.ensures.front in
    sym (records_end c.args.table.now c.loop-bytes.bytes-index c.args.n (omega (arith, all)) c.loop-bytes.next) ∙ c.loop-bytes.invariant
