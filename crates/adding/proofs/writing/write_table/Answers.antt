-- `adding::writing::write_table` meets its contract.
-- Assumes nothing.
use Rattle.std.proofs.Common.{ℕ, ◌+◌, ◌/◌, refl, ap, ap₂, ◌∙◌, arith}
use Rattle.fields.specs.declared.kind.Kind.TheVariants.{TableHead}
use Rattle.fields.specs.Records.{room_after}
use Rattle.tables.specs.Tables.{count, cycle_of, head_fields}
use Rattle.adding.proofs.Tabling.{grants-many, held_after, table_added_lem}
use Rattle.adding.proofs.writing.write_table.Goals as goal

pub overflow_cast-new_count : goal.overflow_cast-new_count
overflow_cast-new_count c =
    let p = c.requires.0 in
    omega (arith, c.new_count.ensures.0, grants-many p.0 c.args.table.now c.args.f c.args.offset p.1, (held_after p.0 c.args.table.now c.args.f c.args.offset p.1 c.requires.1).few)

pub returns : goal.returns
returns c =
    let a = c.args in
    let p = c.requires.0 in
    let n = count a.table.now + cycle_of a.table.now / a.f.interval in
    table_added_lem p.0 a.table.now a.f a.offset p.1 c.requires.1 n a.room.now _ _ refl c.requires.2
    (c.write_head.ensures.room_after
    ∙ ap (λ (x : ℕ). room_after TableHead (head_fields x c.cycle.result c.frame.result) a.room.now) c.new_count.ensures.0
    ∙ ap₂ (λ (x y : ℕ). room_after TableHead (head_fields n x y) a.room.now) c.cycle.ensures c.frame.ensures)
    c.write_grants.ensures
