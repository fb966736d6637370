-- `marks::alike` meets its contract.
-- Assumes nothing.
use Rattle.std.proofs.Common.{sym, ◌∙◌}
use Rattle.marks.proofs.Marking.{alike-uniform}
use Rattle.marks.proofs.alike.Goals as goal

pub returns-in-Some : goal.returns-in-Some
returns-in-Some c =
    let a = c.args in
    let byte = c.in-Some.ensures.lookup.3.1 0 in
    alike-uniform a.bits.now a.x (rw byte at (sym c.uniform.ensures ∙ c.if-uniform.true))
