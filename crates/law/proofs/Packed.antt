-- Grants that pass tests 12 and 14 to 18 fit a packed table, and that table passes the check. Assumes nothing.
use mathlib.Core.Path.{◌≡◌}
use mathlib.Core.Bool.{true}
use mathlib.Core.List.{List, []}
use Prim.Native.Nat.{ℕ, ◌+◌, ◌≤◌, ◌<◌}
use native.Mathlib.Omega.{arith}
use borrow.Author.Tests.{eq-eqb}
use Rattle.logic.proofs.Tests.{both_and}
use Rattle.logic.proofs.Members.{all_mem, mem_all}
use Rattle.flows.specs.declared.flow.Flow.{Flow}
use Rattle.refusals.specs.declared.Refusal.TheVariants.{TableForm, OtherCycle}
use Rattle.refusals.specs.Results.{Passed}
use Rattle.refusals.proofs.Chains.{passed_both, unless_yes}
use Rattle.lists.specs.Lists.{flows_of}
use Rattle.lists.specs.Facts.{occupies, cycle, frame}
use Rattle.lists.specs.Tests.{tests1to7}
use Rattle.lists.specs.Accepted.{Accepted}
use Rattle.lists.proofs.Accepted.{accepted}
use Rattle.lists.proofs.Cycle.{kept, occupies_pos, least_upto, cycle-fits, grants_pos}
use Rattle.tables.specs.declared.packed.Grant.{Grant}
use Rattle.tables.specs.Tables.{grants_of, table_of}
use Rattle.tables.specs.Form.{test11, test12, form_tests}
use Rattle.tables.proofs.Meaning.{Fits, Holds, cycle-table, frame-table, grants-table, formed-table}
use Rattle.law.specs.Check.{known, look, slots, test13, tests14to18, check}
use Rattle.law.proofs.Listed.{known_mem, slots_pos}
use Rattle.law.proofs.Times.{Punctual, pass_times}
use Rattle.law.proofs.Reading.{passes_reads}
use Rattle.law.proofs.Demand.{check_parts}
use Rattle.law.proofs.Oversold.{passes-length}

-- a packed table can hold them
pub held : (fs : List Flow) → Accepted fs → (tab : List Grant) → tests14to18 fs tab ≡ Passed → Holds (cycle fs) (frame fs) tab
unfolding frame
held fs ok tab pass =
    let r = (passes_reads fs tab).0 pass in
    let n = passes-length fs ok.distinct tab pass in
    let sized = slots_pos fs tab (mem_all (λ f. 0 < occupies f) fs (occupies_pos fs ok)) r.listed in
    let punctual = (pass_times 0 fs ok.distinct [] tab r.listed r.timely).punctual in
    record {
      filled = omega (arith, n, grants_pos fs ok);
      few = omega (arith, n, ok.grants_le);
      fits =
          mem_all Fits tab
          (λ g m.
          let f = known_mem fs g.flow (all_mem (λ g. known fs g.flow ≡ true) tab r.listed g m) in
          let k = kept fs ok (look fs g.flow) f.0 in
          let p = all_mem (Punctual 0 fs) tab punctual g m in
          let i = all_mem (λ g. g.start + slots fs g ≤ cycle fs) tab r.inside g m in
          record {
            flow_lt = omega (arith, f.1, k.number_le);
            start_lt = omega (arith, i, all_mem (λ g. 0 < slots fs g) tab sized g m, cycle-fits fs ok);
            late_lt = omega (arith, p.0, k.tolerable, k.interval_le);
          });
      cycle_lt = omega (arith, cycle-fits fs ok);
      frame_lt = omega (arith, cycle-fits fs ok, least_upto (cycle fs) fs);
    }

-- and the table that holds them passes
pub packed-passes : (l : List ℕ) (tab : List Grant) → tests1to7 l ≡ Passed → test12 tab ≡ Passed → tests14to18 (flows_of l) tab ≡ Passed
    → check l (table_of (cycle (flows_of l)) (frame (flows_of l)) tab) ≡ Passed
unfolding form_tests test11 test13
packed-passes l tab list rises pass =
    let c = cycle (flows_of l) in
    let φ = frame (flows_of l) in
    let t = table_of c φ tab in
    let h = held (flows_of l) (accepted l list) tab pass in
    let back : grants_of t ≡ tab = grants-table c φ tab h in
    (check_parts l t).1
    (record {
      list = list;
      form = passed_both (test11 t) _ (unless_yes _ TableForm (formed-table c φ tab h)) (rw back rises);
      belongs = unless_yes _ OtherCycle (both_and _ _ (eq-eqb _ c (cycle-table c φ tab h)) (eq-eqb _ φ (frame-table c φ tab h)));
      rules = rw back pass;
    })
