-- `converting::survey::survey_of` meets its contract.
-- Assumes nothing.
use Rattle.std.proofs.Common.{◌≡◌, None, Some, Err, arith, ◌∙◌, length}
use Rattle.std.proofs.lemmas.Option.{MatchOption-at_none, MatchOption-at_some}
use Rattle.std.proofs.lemmas.Bool.Decides.{nat_tests}
use Rattle.refusals.specs.declared.Refusal.TheVariants.{Encoding}
use Rattle.converting.specs.Parts.{Sound}
use Rattle.converting.proofs.Looking.{look_start, look_bad, look_next, look_end, pack_start, pack_next, pack_end}
use Rattle.converting.proofs.survey.survey_of.Goals as goal

pub loop-rest-init : goal.loop-rest-init
loop-rest-init c = record { look = look_start _ _; pack = λ p. pack_start _ c.args.settings.now c.args.list.now p c.requires }

pub returns-in_err-call : goal.returns-in_err-call
returns-in_err-call c =
    let none : c.next_encoding.result ≡ None = grind arith in
    let is : c.from_residual.result ≡ Err (Encoding c.loop-rest.k) = grind arith in
    let whole = look_bad _ _ _ _ _ _ _ _ c.loop-rest.invariant.look (MatchOption-at_none _ _ none c.next_encoding.ensures) c.args.list.now c.loop-rest.list in
    record { value = is ∙ whole.0; recorded = whole.1 }

pub loop-rest-preserved : goal.loop-rest-preserved
loop-rest-preserved c =
    let some : c.next_encoding.result ≡ Some (c.in_ok-call.call, c.in_ok-call.behind) = grind arith in
    let sound : Sound c.loop-rest.rest.now c.in_ok-call.call c.in_ok-call.behind.now = MatchOption-at_some _ _ _ some c.next_encoding.ensures in
    record {
      look = look_next _ _ _ _ _ _ _ _ c.loop-rest.invariant.look _ _ sound _ c.more-m.ensures _ _ _ c.write_call-kept.ensures _ _ _ _ _
          c.is_complete.ensures c.is_whole.ensures c.noted-missing.ensures c.noted-uneven.ensures c.noted-rules.ensures;
      pack = λ p. pack_next _ _ _ _ _ _ _ _ c.loop-rest.invariant.look _ _ sound _ c.more-m.ensures _ _ _ c.write_call-kept.ensures p c.args.list.now (c.loop-rest.invariant.pack p);
    }

pub returns : goal.returns
returns c =
    let over : length c.loop-rest.rest.now ≡ 0 = grind (arith, nat_tests) in
    record {
      value = look_end _ _ _ _ _ _ _ _ c.loop-rest.invariant.look over _ c.answered.ensures;
      recorded = λ p. pack_end _ _ _ _ _ _ _ _ c.loop-rest.invariant.look over c.args.list.now c.loop-rest.list (c.loop-rest.invariant.pack p);
    }
