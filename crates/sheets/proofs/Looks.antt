-- One look through the lines of a sheet: how many there are, and tests 20 and 4 so far. Assumes nothing.
use mathlib.Core.Path.{◌≡◌, refl, sym, ap, ◌∙◌}
use mathlib.Core.Bool.{true, false}
use mathlib.Core.List.{List, map}
use Prim.Native.Nat.{ℕ, ◌+◌, ◌≤◌, ◌<◌}
use native.Mathlib.Omega.{arith}
use lib.ListN.{length, drop}
use Rattle.std.proofs.Common.{Some, None}
use Rattle.flows.specs.declared.flow.Flow.{Flow}
use Rattle.flows.specs.Flows.{keeps}
use Rattle.refusals.specs.declared.Refusal.TheVariants.{Field, Line as AtLine}
use Rattle.refusals.specs.Results.{Checked, Passed, Refused}
use Rattle.refusals.specs.Tests.{◌⟫◌, unless, lowest}
use Rattle.refusals.proofs.Chains.{chain_passed}
use Rattle.refusals.proofs.Lowest.{lowest-next, lowest-here, lowest-noted}
use Rattle.lists.specs.Tests.{test4}
use Rattle.sheets.specs.Readings.{of_form, readings, flows_in}
use Rattle.sheets.specs.Reader.{line_at}
use Rattle.sheets.specs.Tests.{test20}
use Rattle.sheets.proofs.Walk.{line-within, says, says_bad, flows-next, readings_done, flows_done}

-- the look stands at a place: n lines are behind it, all good, and `rules` is what test 4 says of them
pub record LookAt (s : List ℕ) (at n : ℕ) (rules : Checked) : Type 0 where
  pub inside : at ≤ length s
  pub few : n ≤ at
  pub lines_left : n + length (flows_in (drop at s)) ≡ length (flows_in s)
  pub form_left : test20 s ≡ lowest AtLine (n + 1) (map of_form (readings (drop at s)))
  pub rules_left : test4 (flows_in s) ≡ (rules ⟫ lowest Field (n + 1) (map keeps (flows_in (drop at s))))

pub look-start : (s : List ℕ) → LookAt s 0 0 Passed
unfolding test20 test4
look-start s = record { inside = omega arith; few = omega arith; lines_left = omega arith; form_left = refl; rules_left = refl }

module _ (s : List ℕ) (at n : ℕ) (rules : Checked) (look : LookAt s at n rules) where
  -- at the sheet's end
  pub look_end : length s ≤ at → (n ≡ length (flows_in s)) × (test20 s ≡ Passed) × (test4 (flows_in s) ≡ rules)
  unfolding lowest
  look_end h =
      let none = flows_done s at h in (
        omega (arith, look.lines_left, ap length none),
        look.form_left ∙ rw (readings_done s at h),
        look.rules_left ∙ rw none (chain_passed rules),
      )

  -- at a bad line
  pub look-bad : at < length s → None ≡ line_at at s → test20 s ≡ Refused (AtLine (n + 1))
  look-bad h g =
      let bad = says_bad s at h g in
      look.form_left ∙ rw bad.1 (lowest-here AtLine (n + 1) false (map of_form bad.0) refl)

  -- at a line of the flow f, with the place e behind it
  pub look-next : (f : Flow) (e : ℕ) → Some (f, e) ≡ line_at at s → (new : Checked) → new ≡ (rules ⟫ unless (keeps f) (Field (n + 1)))
      → LookAt s e (n + 1) new
  look-next f e g new r =
      let w = line-within s at f e g in
      let next = flows-next s at f e g in
      record {
        inside = w.1;
        few = omega (arith, w.0, look.few);
        lines_left = omega (arith, look.lines_left, ap length next);
        form_left =
            look.form_left ∙ rw (says s at f e g)
            (lowest-next AtLine (n + 1) true (map of_form (readings (drop e s))) refl);
        rules_left =
            look.rules_left ∙ rw next
            (lowest-noted Field (n + 1) (keeps f) (map keeps (flows_in (drop e s))) rules
            ∙ ap (λ (a : Checked). a ⟫ lowest Field (n + 1 + 1) (map keeps (flows_in (drop e s)))) (sym r));
      }
