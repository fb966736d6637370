-- The planner's grants pass tests 12 and 14 to 18; they are as many as the list's, and each fits its record. Assumes nothing.
use mathlib.Core.Path.{◌≡◌, sym, ap, ◌∙◌, subst}
use mathlib.Core.Bool.{true}
use mathlib.Core.List.{List, [], ◌∷◌}
use Prim.Native.Nat.{ℕ, ◌+◌, ◌/◌, ◌≤◌, ◌<◌}
use native.Mathlib.Omega.{arith}
use native.Mathlib.Nat.{div-eq_of_eq-mul_left}
use lib.ListN.{length, length-map}
use Rattle.logic.specs.Lists.{All}
use Rattle.logic.proofs.Members.{Mem, mem_all, all_imp, all_both}
use Rattle.logic.proofs.Progressions.{progression, progression-length}
use Rattle.flows.specs.declared.flow.Flow.{Flow}
use Rattle.refusals.specs.Results.{Passed}
use Rattle.lists.specs.Facts.{cycle, frame, grants_of, grants}
use Rattle.lists.specs.Accepted.{Accepted}
use Rattle.lists.proofs.Cycle.{kept, cycle_le, interval_pos}
use Rattle.tables.specs.declared.packed.Grant.{Grant}
use Rattle.tables.specs.Form.{test12}
use Rattle.law.specs.Check.{known, look, slots, nominal, to, last, tests14to18}
use Rattle.law.proofs.Listed.{known_mem}
use Rattle.law.proofs.Chains.{Chain, chain_earlier, chain_clear, chain_inside, chain_before, chain_rising}
use Rattle.law.proofs.Times.{Punctual, times, progression-first, times_pass}
use Rattle.law.proofs.Reading.{Reads, reads12, passes_reads}
use Rattle.law.proofs.Oversold.{passes-length}
use Rattle.placing.specs.Rule.{Outcome, done, refused, Settled, intervals, layout, rows, planned}
use Rattle.placing.proofs.Tables.{Timed, timed_listed, timed_slots, rows-times, rows_timed, rows_chain}
use Rattle.placing.proofs.Windows.{by_outcome, done_not-refused, groups-place}
use Rattle.placing.proofs.Standing.{Stands, stands}

-- ---- the grants come from a layout, and so does the refused place

pub planned_done : (fs : List Flow) (hs : List (List Settled)) → layout fs ≡ done hs → planned fs ≡ done (rows (frame fs) 0 0 hs)
unfolding planned
planned_done fs hs e = rw (e, planned)

planned-refused : (fs : List Flow) (p : ℕ) → layout fs ≡ refused p → planned fs ≡ refused p
unfolding planned
planned-refused fs p e = rw (e, planned)

pub planned-layout : (fs : List Flow) (gs : List Grant) → planned fs ≡ done gs → (hs : List (List Settled)) × (layout fs ≡ done hs) × (gs ≡ rows (frame fs) 0 0 hs)
planned-layout fs gs e =
    by_outcome (layout fs)
    (λ hs w. let r : ◌≡◌ {A = Outcome (List Grant)} (done gs) (done (rows (frame fs) 0 0 hs)) = sym e ∙ planned_done fs hs w in (hs, w, cc))
    (λ p w. done_not-refused (sym (planned-refused fs p w) ∙ e))

-- a refused list names one of its flows
pub refused-place : (fs : List Flow) (p : ℕ) → planned fs ≡ refused p → (1 ≤ p) × (p ≤ length fs)
unfolding layout
refused-place fs p e =
    by_outcome (layout fs)
    (λ hs w. done_not-refused (sym e ∙ planned_done fs hs w))
    (λ q w.
    let r : ◌≡◌ {A = Outcome (List Grant)} (refused p) (refused q) = sym e ∙ planned-refused fs q w in
    let s : p ≡ q = cc in
    rw s (groups-place (frame fs) (frame fs) q fs ([] ∷ []) (intervals fs) w))

-- ---- the tests

module _ (fs : List Flow) (ok : Accepted fs) (gs : List Grant) (plan : planned fs ≡ done gs) where
  -- their layout
  hs : List (List Settled)
  hs = (planned-layout fs gs plan).0

  stand : Stands fs (cycle fs) (cycle fs) hs
  unfolding hs
  stand = stands fs ok hs (planned-layout fs gs plan).1

  are : rows (frame fs) 0 0 hs ≡ gs
  unfolding hs
  are = sym (planned-layout fs gs plan).2

  -- each is a listed flow's, and late neither over its jitter nor over its start
  timed : All (Timed fs) gs
  timed = subst (All (Timed fs)) are (rows_timed fs ok (frame fs) 0 0 hs stand.based stand.spare)

  listed : All (λ r. known fs r.flow ≡ true) gs
  listed = timed_listed fs ok gs timed

  -- they stand one after another, from 0 to the cycle
  chain : Chain fs 0 (cycle fs) gs
  chain =
      chain_earlier fs 0 (0 + 0) (cycle fs) gs (omega arith)
      (subst (Chain fs (0 + 0) (cycle fs)) are (rows_chain fs ok (frame fs) 0 0 (cycle fs) hs stand.based (omega (arith, stand.wide, stand.clear))))

  -- a flow's nominal times step by its interval, cycle / interval of them, the first below the interval
  pub planned-steps : (f : Flow) → Mem f fs → (t : ℕ) × (t < f.interval) × (times 0 f.number gs ≡ progression t f.interval (grants_of (cycle fs) f))
  unfolding grants_of
  planned-steps f m =
      let s = stand.steps f m (cycle_le fs f m) in
      let n : cycle fs / f.interval ≡ s.rounds = div-eq_of_eq-mul_left (interval_pos fs ok f m) (sym (s.fills ∙ stand.wide)) in
      (s.first, s.early, rw n (ap (times 0 f.number) (sym are) ∙ rows-times (λ f. Mem f fs) (frame fs) f.number 0 0 hs stand.based ∙ s.times))

  -- tests 14 to 18, each as a fact
  reads : Reads fs gs
  unfolding last
  reads =
      record {
        listed = listed;
        counted =
            mem_all (λ f. length (to f.number gs) ≡ grants_of (cycle fs) f) fs
            (λ f m.
            let p = planned-steps f m in
            sym (length-map (to f.number gs) (nominal 0)) ∙ ap length p.2 ∙ progression-length p.0 f.interval (grants_of (cycle fs) f));
        timely =
            times_pass 0 fs ok.distinct [] gs listed
            (record {
              punctual = all_imp (Timed fs) (Punctual 0 fs) gs (λ r p. p.1) timed;
              follows = λ f m. let p = planned-steps f m in rw p.2 (progression-first f.interval p.0 (grants_of (cycle fs) f) p.1);
            });
        clear = chain_clear fs 0 (cycle fs) gs chain;
        inside = chain_inside fs 0 (cycle fs) gs chain;
      }

  slotted : All (λ r. 0 < slots fs r) gs
  slotted = timed_slots fs ok gs timed

  -- the planner's grants pass the check
  pub planned-passes : (test12 gs ≡ Passed) × (tests14to18 fs gs ≡ Passed)
  planned-passes = ((reads12 gs).1 (chain_rising fs 0 (cycle fs) gs slotted chain), (passes_reads fs gs).1 reads)

  -- there are as many of them as the list has grants
  pub planned-length : length gs ≡ grants fs
  planned-length = passes-length fs ok.distinct gs planned-passes.1

  -- each is a listed flow's, and fits its record
  pub planned-fits : All (λ r. (known fs r.flow ≡ true) × (r.flow < 1024) × (r.start < cycle fs) × (r.late < 4096)) gs
  planned-fits =
      all_both (Timed fs) (λ r. r.start < cycle fs) (λ r. (known fs r.flow ≡ true) × (r.flow < 1024) × (r.start < cycle fs) × (r.late < 4096)) gs
      (λ r p q.
      let m = known_mem fs r.flow p.0 in
      let k = kept fs ok (look fs r.flow) m.0 in
      (p.0, omega (arith, m.1, k.number_le), q, omega (arith, k.tolerable, k.interval_le)))
      timed (chain_before fs 0 (cycle fs) gs slotted chain)
