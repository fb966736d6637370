-- `pairing::intervals::keep` meets its contract.
-- Assumes nothing.
use Rattle.std.proofs.Common.{sym, ◌∙◌}
use Rattle.pairing.proofs.Keeping.{is_held, not_held, held_related, held_kept, filled_kept}
use Rattle.pairing.proofs.intervals.keep.Goals as goal

pub returns-then-eq : goal.returns-then-eq
returns-then-eq c =
    let a = c.args in
    let held = is_held _ a.x (sym c.eq.ensures ∙ c.if-eq.true) in
    record {
      value = sym (held_related a.kept.now a.x c.requires.0 c.requires.1 held);
      kept = λ _. held_kept a.kept.now a.x c.requires.0 c.requires.1 held;
    }

pub returns : goal.returns
returns c =
    let a = c.args in
    let all = sym c.related_to_kept.ensures ∙ c.if-not-related_to_kept.false in
    record {
      value = sym all;
      kept = λ _. filled_kept a.kept.now a.x c.requires.0 c.requires.1 (not_held _ a.x (sym c.eq.ensures ∙ c.if-eq.false)) all;
    }
