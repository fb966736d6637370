-- `adding::writing::write_list` meets its contract.
-- Assumes nothing.
use Rattle.std.proofs.Common.{ℕ, ◌+◌, ap, ◌∙◌, arith}
use Rattle.fields.specs.declared.kind.Kind.TheVariants.{ListHead}
use Rattle.fields.specs.Records.{room_after}
use Rattle.flows.proofs.Flows.{keeps_is}
use Rattle.lists.specs.Lists.{head_fields, record_after}
use Rattle.lists.proofs.RoundTrip.{Listed, listed}
use Rattle.adding.proofs.Listing.{list_added}
use Rattle.adding.proofs.writing.write_list.Goals as goal
use Rattle.adding.proofs.writing.write_list.Goals.{After-count-n}

-- what tests 1 to 4 leave of the list
is : (c : After-count-n) → Listed c.args.list.now
is c = listed c.args.list.now c.requires.0

pub overflow_cast-n : goal.overflow_cast-n
overflow_cast-n c = omega (arith, (is (goal.at.overflow_cast-n c).After-count-n).most, c.count-n.ensures.0)

pub slice_bounds-put-count : goal.slice_bounds-put-count
slice_bounds-put-count c = omega (arith, (is (goal.at.slice_bounds-put-count c).After-count-n).exactly)

pub slice_bounds-put-start : goal.slice_bounds-put-start
slice_bounds-put-start c = omega (arith, (is (goal.at.slice_bounds-put-start c).After-count-n).exactly)

pub returns : goal.returns
returns c =
    let count = c.count-n.ensures.0 in
    list_added c.args.list.now (λ i. omega (arith, c.shared_slice_known-1.given i)) c.requires.0 c.args.f (keeps_is c.args.f c.requires.1) c.args.room.now _ _ _ c.requires.2
    (c.write_head.ensures.room_after ∙ ap (λ (k : ℕ). room_after ListHead (head_fields (k + 1)) c.args.room.now) count)
    c.put.ensures.room_after
    (c.write_record.ensures.room_after ∙ ap (λ (k : ℕ). record_after c.args.f k c.put.new.room) count)
