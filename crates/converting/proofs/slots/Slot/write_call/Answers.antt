-- `converting::slots::Slot::write_call` meets its contract.
-- Assumes nothing.
use Rattle.std.proofs.Common.{arith, sym, ◌∙◌}
use Rattle.converting.proofs.Copying.{call_none, call_broken, call_first, call_kept}
use Rattle.converting.proofs.slots.Slot.write_call.Goals as goal

pub returns-then-k-eq0 : goal.returns-then-k-eq0
returns-then-k-eq0 c = call_none _ _ _ _ _ c.if-k-eq0.true

pub returns-in_default : goal.returns-in_default
returns-in_default c = call_broken _ _ _ _ _ c.requires (omega arith) (sym c.in_default.is ∙ c.flow_of.ensures)

pub write_copies-requires : goal.write_copies-requires
write_copies-requires c = call_first _ _ _ _ c.args.list.now c.requires _ (sym c.in-Some.is ∙ c.flow_of.ensures)

pub returns : goal.returns
returns c = call_kept _ _ _ _ _ c.requires _ (sym c.in-Some.is ∙ c.flow_of.ensures) _ c.write_copies.ensures
