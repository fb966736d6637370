-- `words::number::number_at` meets its contract.
-- Assumes nothing.
use Rattle.std.proofs.Common.{arith, sym, ◌∙◌}
use Rattle.words.proofs.Numbers.{run-inside, number_none, number_small, number_found}
use Rattle.words.proofs.number.number_at.Goals as goal

pub overflow_add-end : goal.overflow_add-end
overflow_add-end c = omega (arith, run-inside c.args.at _ _ _ c.args.s.now c.requires (omega arith) c.digits-v.ensures.number c.digits-v.ensures.count)

pub slice_bounds-formed-end : goal.slice_bounds-formed-end
slice_bounds-formed-end c = run-inside c.args.at _ _ _ c.args.s.now c.requires (omega arith) c.digits-v.ensures.number c.digits-v.ensures.count

pub returns-then-not-formed : goal.returns-then-not-formed
returns-then-not-formed c =
    number_none c.args.at _ _ _ c.args.s.now c.requires (omega arith) c.digits-v.ensures.number c.digits-v.ensures.count (sym c.formed.ensures ∙ c.if-not-formed.true)

pub overflow_cast-result : goal.overflow_cast-result
overflow_cast-result c =
    omega (arith, number_small c.args.at _ _ _ c.args.s.now c.requires (omega arith) c.digits-v.ensures.number c.digits-v.ensures.count (sym c.formed.ensures ∙ c.if-not-formed.false))

pub returns : goal.returns
returns c =
    number_found c.args.at _ _ _ c.args.s.now c.requires (omega arith) c.digits-v.ensures.number c.digits-v.ensures.count (sym c.formed.ensures ∙ c.if-not-formed.false)
