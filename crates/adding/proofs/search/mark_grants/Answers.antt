-- `adding::search::mark_grants` meets its contract.
-- Assumes nothing.
use Rattle.std.proofs.Common.{◌≡◌, ◌+◌, ◌≤◌, ap, arith}
use Rattle.logic.proofs.Members.{all_get_d}
use Rattle.lists.specs.Lists.{flows_of}
use Rattle.tables.specs.declared.packed.Grant.{Grant}
use Rattle.tables.specs.Tables.{grants_of as grants_in}
use Rattle.tables.proofs.Records.{length-grants, grant_is}
use Rattle.law.specs.Check.{slots}
use Rattle.law.specs.Law.{blank, nth}
use Rattle.adding.proofs.Overlays.{overlaid_next}
use Rattle.adding.proofs.search.mark_grants.Goals as goal
use Rattle.adding.proofs.search.mark_grants.Goals.{After-slots_of-slots}

-- the grant is the table's
here : (c : After-slots_of-slots) → c.grant_at-grant.result ≡ nth (grants_in c.args.table.now) c.loop-i.i
here c = grant_is c.args.table.now blank c.loop-i.i c.grant_at-grant.result (omega (arith, c.count-i-end.ensures, c.loop-i-test.true)) c.grant_at-grant.ensures

pub mark_slots-requires-clause-early : goal.mark_slots-requires-clause-early
mark_slots-requires-clause-early c =
    let fs = flows_of c.args.list.now in
    let gs = grants_in c.args.table.now in
    let is = here (goal.at.mark_slots-requires-clause-early c).After-slots_of-slots in
    let ends = all_get_d (λ g. g.start + slots fs g ≤ 4096) blank gs c.requires.early c.loop-i.i (omega (arith, length-grants c.args.table.now, c.count-i-end.ensures, c.loop-i-test.true)) in
    omega (arith, ends, c.slots_of-slots.ensures, ap (slots fs) is, ap (λ (g : Grant). g.start) is)

pub loop-i-preserved : goal.loop-i-preserved
loop-i-preserved c =
    overlaid_next _ _ _ c.loop-i.i _ _ c.loop-i.taken _ (here (goal.at.loop-i-preserved c).After-slots_of-slots) c.slots_of-slots.ensures c.loop-i.invariant c.mark_slots.ensures
