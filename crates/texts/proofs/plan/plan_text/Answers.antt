-- `texts::plan::plan_text` meets its contract.
-- Assumes nothing.
use Rattle.std.proofs.Common.{rules, arith}
use Rattle.texts.proofs.Rooms.{text_refused, text_printed}
use Rattle.texts.proofs.plan.plan_text.Goals as goal

pub returns-in_err-unless : goal.returns-in_err-unless
returns-in_err-unless c =
    let short = text_refused _ _ _ _ (omega arith) c.print_plan-size.ensures _ c.in_err-unless.ensures in
    record { value = search (rules, short.0); room_after = short.1 }

pub returns : goal.returns
returns c =
    let done = text_printed _ _ _ _ (omega arith) c.print_plan-size.ensures _ c.in_ok-unless.ensures _ _ c.print_plan.ensures in
    record { value = done.0; room_after = done.1 }
