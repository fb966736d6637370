-- All values fit where those that are left do. Assumes nothing.
use Rattle.std.proofs.Common.{◌≡◌, ℕ, ◌≤◌, length, get_or}
use Rattle.fields.specs.Packed.{fits}
use Rattle.fields.proofs.bits.all_fit.Given as goal

abbrev pub invariant-loop-w : goal.invariant-loop-w
invariant-loop-w l =
    let widths = l.w-iterator.a.rest.now in
    let values = l.w-iterator.b.rest.now in
    record { narrow : (k : ℕ) → get_or widths k 0 ≤ 16; long : length widths ≡ length values; same : fits widths values ≡ fits l.fn.widths l.fn.values }
