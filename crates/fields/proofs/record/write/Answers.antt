-- `fields::record::write` meets its contract.
-- Assumes nothing.
use mathlib.Core.Path.{◌≡◌, sym, ap, ◌∙◌}
use mathlib.Core.Bool.{Bool, true, false}
use mathlib.Core.List.{List}
use Prim.Native.Nat.{ℕ}
use native.Mathlib.Omega.{arith}
use Rattle.fields.specs.Packed.{fits}
use Rattle.fields.specs.Kinds.{widths}
use Rattle.fields.proofs.Packed.{fits_fit}
use Rattle.fields.proofs.Widths.{narrow}
use Rattle.fields.proofs.Records.{ends-wide, ends_short, ends-put}
use Rattle.fields.proofs.record.write.Goals as goal
use Rattle.fields.proofs.record.write.Goals.{After-all_fit}

pub returns-then-room-size : goal.returns-then-room-size
returns-then-room-size c =
    let a = c.args in
    let whole = ends_short a.kind a.values a.room.now (omega arith) in record { value = whole.0; room_after = whole.1 }

pub all_fit-requires : goal.all_fit-requires
all_fit-requires c = rw c.widths-widths.ensures (narrow c.args.kind)

-- what the test says of the record
test : (c : After-all_fit) (b : Bool) → c.all_fit.result ≡ b
    → fits (widths c.args.kind) c.args.values ≡ b
test c b e = sym (c.all_fit.ensures ∙ ap (λ (ws : List ℕ). fits ws c.args.values) c.widths-widths.ensures) ∙ e

pub returns-then-not-all_fit : goal.returns-then-not-all_fit
returns-then-not-all_fit c =
    let a = c.args in
    let whole = ends-wide a.kind a.values a.room.now (omega arith) (test (goal.at.returns-then-not-all_fit c).After-all_fit false c.if-not-all_fit.true) in record { value = whole.0; room_after = whole.1 }

pub joined-n-requires : goal.joined-n-requires
joined-n-requires c =
    let a = c.args in record {
      narrow = rw c.widths-widths.ensures (narrow a.kind);
      fit = rw c.widths-widths.ensures (fits_fit (widths a.kind) a.values (test (goal.at.joined-n-requires c).After-all_fit true c.if-not-all_fit.false));
    }

pub returns : goal.returns
returns c =
    let a = c.args in
    let whole = ends-put a.kind a.values a.room.now c.bytes-size.result c.widths-widths.result c.joined-n.result c.put.new.out
    c.bytes-size.ensures c.widths-widths.ensures (test (goal.at.returns c).After-all_fit true c.if-not-all_fit.false) (omega arith)
    c.joined-n.ensures c.put.ensures in record { value = whole.0; room_after = whole.1 }
