-- `converting::pack::list_from_settings` meets its contract.
-- Assumes nothing.
use Rattle.std.proofs.Common.{◌≡◌, ℕ, arith, length-take, replicate, le_refl}
use Rattle.refusals.specs.Results.{Passed}
use Rattle.refusals.specs.Answers.{answer}
use Rattle.settings.specs.Slots.{channel}
use Rattle.settings.specs.Tests.{test26}
use Rattle.converting.proofs.Packing.{survey_flows, survey_refused, list_made}
use Rattle.converting.proofs.pack.list_from_settings.Goals as goal

pub slice_bounds-test_and_put-end : goal.slice_bounds-test_and_put-end
slice_bounds-test_and_put-end c =
    let found = survey_flows _ _ _ c.in_ok-n.ensures.value in omega (arith, length-take {A = ℕ}, found.2)

pub returns : goal.returns
returns c =
    let slot = c.in_ok-slot.slot in
    let same : channel slot.microseconds slot.bytes ≡ channel c.args.slot_microseconds c.args.slot_bytes = grind arith in
    let some : test26 (channel slot.microseconds slot.bytes) ≡ Passed = grind arith in
    let made = list_made _ _ _ c.in_ok-n.ensures.value some (replicate 772 0) _ _ (le_refl 772) c.in_ok-n.ensures.recorded c.write_head.ensures.room_after in
    record { value = cc (made.0, made.1); room_after = cc (made.0, made.1) }

pub returns-in_err-n-clause-value : goal.returns-in_err-n-clause-value
unfolding answer
returns-in_err-n-clause-value c = grind (arith, survey_refused)
