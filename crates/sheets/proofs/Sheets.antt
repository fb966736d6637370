-- Test 20 passes exactly the sheets of document 01's form, and their flows are those of the lines in order. Assumes nothing.
use mathlib.Core.Path.{◌≡◌, refl, sym, ap, ap₂, ◌∙◌}
use mathlib.Core.Bool.{true, true≢false}
use mathlib.Core.Logic.{◌↔◌}
use mathlib.Core.List.{List, [], ◌∷◌, ◌++◌, map}
use Prim.Native.Nat.{ℕ}
use native.Mathlib.Omega.{arith}
use Rattle.logic.specs.Lists.{All}
use Rattle.std.proofs.Common.{Option, Some, None}
use Rattle.flows.specs.declared.flow.Flow.{Flow}
use Rattle.flows.specs.Flows.{keeps}
use Rattle.flows.proofs.Flows.{keeps_is}
use Rattle.refusals.specs.declared.Refusal.TheVariants.{Line as AtLine}
use Rattle.refusals.specs.Results.{Passed}
use Rattle.refusals.specs.Tests.{lowest}
use Rattle.refusals.proofs.Lowest.{Pass, pass_lowest, lowest_pass}
use Rattle.sheets.specs.Texts.{line, text}
use Rattle.sheets.specs.Form.{SheetOf}
use Rattle.sheets.specs.Lines.{lines}
use Rattle.sheets.specs.Readings.{of_form, flow_in, read, readings, flows_in}
use Rattle.sheets.specs.Tests.{test20}
use Rattle.sheets.proofs.Lines.{joined, joined-lines}
use Rattle.sheets.proofs.Readings.{readings-none, flows_is}
use Rattle.sheets.proofs.Texts.{text-none, text_is}
use Rattle.sheets.proofs.Forms.{Short, read-line_of, line_of_is, line-line_of}
use Rattle.sheets.proofs.Walk.{reads_first}

-- ---- what a sheet of flows says

says_flows : (fs : List Flow) (s : List ℕ) → SheetOf fs s → readings s ≡ map Some fs
says_flows [] s e = ap readings e ∙ readings-none
says_flows (f ∷ fs) s h =
    let is = line_of_is f h.0 h.2 in
    let rest : List ℕ = h.1 in
    ap readings (h.4 ∙ ap (λ (l : List ℕ). l ++ rest) is.1)
    ∙ reads_first f rest is.0
    ∙ ap (λ (xs : List (Option Flow)). Some f ∷ xs) (says_flows fs rest h.3)

all-formed : (fs : List Flow) → Pass (map of_form (map Some fs))
all-formed [] = tt
all-formed (f ∷ fs) = (refl, all-formed fs)

flows_again : (fs : List Flow) → map flow_in (map Some fs) ≡ fs
flows_again [] = refl
flows_again (f ∷ fs) = ap (λ (gs : List Flow). f ∷ gs) (flows_again fs)

pub sheet_passes : (fs : List Flow) (s : List ℕ) → SheetOf fs s → (test20 s ≡ Passed) × (flows_in s ≡ fs)
unfolding test20
sheet_passes fs s h =
    let says = says_flows fs s h in (
      ap (λ (xs : List (Option Flow)). lowest AtLine 1 (map of_form xs)) says ∙ pass_lowest AtLine 1 (map of_form (map Some fs)) (all-formed fs),
      flows_is s ∙ ap (map flow_in) says ∙ flows_again fs,
    )

-- ---- what passes is a sheet of its flows

is_of : (x : Option Flow) → of_form x ≡ true → x ≡ Some (flow_in x)
is_of (Some f) e = refl
is_of None e = absurd (true≢false (sym e))

lines_sheet : (ls : List (List ℕ)) → Pass (map of_form (map read ls)) → SheetOf (map flow_in (map read ls)) (joined ls)
unfolding joined
lines_sheet [] p = refl
lines_sheet (l ∷ ls) p =
    (l, joined ls, read-line_of l (flow_in (read l)) (is_of (read l) p.0), lines_sheet ls p.1, refl)

pub passes_sheet : (s : List ℕ) → test20 s ≡ Passed → SheetOf (flows_in s) s
unfolding test20 readings flows_in
passes_sheet s e = rw (joined-lines s) at (lines_sheet (lines s) (lowest_pass AtLine 1 (map of_form (map read (lines s))) e))

-- the sheets that pass test 20 are those of flows, and line n gives flow n
pub sheet_exactly : (fs : List Flow) (s : List ℕ) → ((test20 s ≡ Passed) × (flows_in s ≡ fs)) ↔ SheetOf fs s
sheet_exactly fs s = (λ h. rw h.1 at (passes_sheet s h.0), sheet_passes fs s)

-- ---- the text of flows

pub sheet_is_text : (fs : List Flow) (s : List ℕ) → SheetOf fs s → s ≡ text fs
sheet_is_text [] s e = e ∙ sym text-none
sheet_is_text (f ∷ fs) s h =
    h.4 ∙ ap₂ (λ (x y : List ℕ). x ++ y) (line_of_is f h.0 h.2).1 (sheet_is_text fs h.1 h.3) ∙ sym (text_is f fs)

keeps_short : (f : Flow) → keeps f ≡ true → Short f
keeps_short f h = let k = keeps_is f h in (omega arith, omega arith, omega arith, omega arith)

pub text_is_sheet : (fs : List Flow) → All (λ f. keeps f ≡ true) fs → SheetOf fs (text fs)
text_is_sheet [] p = text-none
text_is_sheet (f ∷ fs) p = (line f, text fs, line-line_of f (keeps_short f p.0), text_is_sheet fs p.1, text_is f fs)
