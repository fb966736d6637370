-- `reading::survey::survey_of` meets its contract.
-- Assumes nothing.
use mathlib.Core.Path.{◌≡◌, refl, ap, ◌∙◌}
use native.Mathlib.Omega.{arith}
use Rattle.std.proofs.lemmas.Result.{err_from_is_err_and}
use lib.ListN.{length}
use Rattle.logic.specs.Numbers.{among}
use Rattle.refusals.specs.Results.{Passed}
use Rattle.lists.specs.Tests.{test4}
use Rattle.lists.proofs.Verdicts.{count-refused, count_passed}
use Rattle.sheets.specs.Readings.{flows_in}
use Rattle.sheets.specs.Tests.{test20, sheet_tests}
use Rattle.sheets.proofs.Walk.{line-within}
use Rattle.sheets.proofs.Tests.{form_answers, count-answers, rule-answers, found-refused, found-lines, sound}
use Rattle.sheets.proofs.Looks.{look-start, look_end, look-bad, look-next}
use Rattle.sheets.proofs.Packing.{pack-start, pack_end, pack-next}
use Rattle.reading.proofs.survey.survey_of.Goals as goal
use Rattle.reading.proofs.survey.survey_of.Goals.{After-few, After-loop-at, Else-not-few}

pub loop-at-init : goal.loop-at-init
loop-at-init c =
    let sheet = c.args.sheet.now in
    (look-start sheet, refl, λ p. pack-start sheet c.args.list.now (sound sheet p) c.requires)

pub returns-in_default : goal.returns-in_default
returns-in_default c =
    let s = c.args in
    let whole = found-refused s.sheet.now s.list.now _ _
    (form_answers s.sheet.now _
    (look-bad s.sheet.now c.loop-at.at c.loop-at.n c.loop-at.rules c.loop-at.invariant.0 c.loop-at-test.true c.in_default.ensures)) in record { value = whole.0; recorded = whole.1 }

pub loop-at-smaller : goal.loop-at-smaller
loop-at-smaller c =
    let w = line-within c.args.sheet.now _ _ _ c.in-Some.ensures in
    omega (arith, w.0, w.1)

pub loop-at-preserved : goal.loop-at-preserved
loop-at-preserved c =
    let s = c.args in (
      look-next s.sheet.now c.loop-at.at c.loop-at.n c.loop-at.rules c.loop-at.invariant.0 _ _ c.in-Some.ensures _ (rw c.keeps.ensures at c.noted-rules.ensures),
      c.write_record.auto.room ∙ c.loop-at.invariant.1,
      λ q. pack-next s.sheet.now s.list.now c.loop-at.at c.loop-at.n c.loop-at.list (c.loop-at.invariant.2 q) _ _ c.in-Some.ensures
          c.write_record.new.room c.write_record.auto.room c.write_record.ensures.room_after,
    )

-- what is known behind the last line
seen : (c : After-loop-at) → let s = c.args.sheet.now in
    (c.loop-at.n ≡ length (flows_in s)) × (test20 s ≡ Passed) × (test4 (flows_in s) ≡ c.loop-at.rules)
seen c = look_end c.args.sheet.now _ _ _ c.loop-at.invariant.0 (omega (arith, c.loop-at-test.false))

-- what is asked of n is asked of the lines
asked : (c : After-few) → c.few.result ≡ among 1 128 (length (flows_in c.args.sheet.now))
asked c = c.few.ensures ∙ ap (among 1 128) (seen (goal.at.After-few c).After-loop-at).0

-- there are as many lines as may be, so test 4 answers
rule : (c : Else-not-few) → sheet_tests c.args.sheet.now ≡ c.loop-at.rules
rule c =
    let end = seen (goal.at.Else-not-few c).After-loop-at in
    rule-answers _ end.1 (count_passed _ _ (asked (goal.at.Else-not-few c).After-few) c.if-not-few.false) ∙ end.2

pub returns-then-not-few : goal.returns-then-not-few
returns-then-not-few c = let whole = found-refused _ c.args.list.now _ _
    (count-answers _ (seen (goal.at.returns-then-not-few c).After-loop-at).1 _ (count-refused _ _ (asked (goal.at.returns-then-not-few c).After-few) c.if-not-few.true)) in record { value = whole.0; recorded = whole.1 }

pub returns-in_err-rules : goal.returns-in_err-rules
returns-in_err-rules c =
    let out = err_from_is_err_and c.from_residual.result c.from_residual.ensures.1 in
    let whole = found-refused _ c.args.list.now c.loop-at.list _ (rule (goal.at.returns-in_err-rules c).Else-not-few ∙ c.in_err-rules.was) in
    record { value = rw (out.1, out.2) whole.0; recorded = whole.1 }

pub returns : goal.returns
returns c =
    let s = c.args in record {
      value = found-lines _ _ (rule (goal.at.returns c).Else-not-few ∙ c.in_ok-rules.was) (seen (goal.at.returns c).After-loop-at).0;
      recorded = λ p. pack_end s.sheet.now s.list.now _ _ c.loop-at.list (c.loop-at.invariant.2 p) (omega (arith, c.loop-at-test.false));
    }
