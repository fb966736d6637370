-- `adding::search::first_offset` meets its contract.
-- Assumes nothing.
use Rattle.std.proofs.Common.{ℕ, sym, ap, ◌∙◌, arith}
use Rattle.marks.proofs.Marking.{none-marked}
use Rattle.lists.specs.Facts.{occupies}
use Rattle.adding.specs.Parts.{first_run}
use Rattle.adding.proofs.Known.{Known, known}
use Rattle.adding.proofs.Searching.{offset_is_run}
use Rattle.adding.proofs.search.first_offset.Goals as goal
use Rattle.adding.proofs.search.first_offset.Goals.{Start}

-- what is known of the list, the table and the new flow
is : (c : Start) → Known c.args.list.now c.args.table.now c.args.f
is c = known c.args.list.now c.args.table.now c.args.f c.requires.1

pub mark_grants-requires : goal.mark_grants-requires
mark_grants-requires c =
    let k = is (goal.at.mark_grants-requires c).Start in
    record { indexed = c.requires.0; early = k.early; within = (omega (arith, k.rule.timed), omega (arith, k.rule.interval_le)); unmarked = none-marked 512 }

pub first_run-requires : goal.first_run-requires
unfolding occupies
first_run-requires c =
    let r = (is (goal.at.first_run-requires c).Start).rule in
    (omega (arith, c.occupies.ensures, r.sized), omega (arith, c.occupies.ensures, r.size_le), r.interval_le)

pub returns : goal.returns
returns c =
    let a = c.args in
    c.first_run.ensures
    ∙ ap (λ (n : ℕ). first_run c.mark_grants.new.taken n a.f.interval) c.occupies.ensures
    ∙ sym (offset_is_run a.list.now a.table.now a.f (is (goal.at.returns c).Start) _ c.mark_grants.ensures)
