-- Demand 2: a table passes the check exactly when it obeys the law forever. Assumes nothing.
use mathlib.Core.Path.{◌≡◌, sym, ap, ◌∙◌}
use mathlib.Core.Bool.{true}
use mathlib.Core.Logic.{◌↔◌}
use mathlib.Core.List.{List, []}
use mathlib.Core.Option.{none}
use Prim.Native.Nat.{ℕ, ◌+◌, ◌≤◌, ◌<◌}
use native.Mathlib.Omega.{arith}
use native.Mathlib.Nat.{div-eq_of_eq-mul_left}
use lib.ListN.{length, length-map}
use Rattle.logic.specs.Lists.{All}
use Rattle.logic.proofs.Members.{Mem, all_mem, mem_all, all_imp}
use Rattle.logic.proofs.Progressions.{progression}
use Rattle.flows.specs.declared.flow.Flow.{Flow}
use Rattle.refusals.specs.Results.{Passed}
use Rattle.lists.specs.Facts.{occupies, cycle, grants_of}
use Rattle.lists.specs.Accepted.{Accepted}
use Rattle.lists.proofs.Cycle.{occupies_pos, interval_pos, divides-cycle, granted}
use Rattle.tables.specs.declared.packed.Grant.{Grant}
use Rattle.tables.specs.Form.{test12}
use Rattle.law.specs.Check.{known, look, slots, nominal, to, last, tests14to18}
use Rattle.law.specs.Law.{Obeys, Law, Rising, Inside}
use Rattle.law.proofs.Listed.{known_mem, look_mem, slots_pos}
use Rattle.law.proofs.FlowGrants.{to-all, mem_to}
use Rattle.law.proofs.Chains.{inside_chain, chain_once, once_clear}
use Rattle.law.proofs.Times.{Follows, Punctual, times, first-progression, progression-first, pass_times, times_pass}
use Rattle.law.proofs.Rounds.{Round, round_obeys, obeys_round, round_early}
use Rattle.law.proofs.Reading.{Reads, reads12, passes_reads}

module _ (fs : List Flow) (ok : Accepted fs) (tab : List Grant) where
  -- ---- what passes obeys

  -- a flow's grants in a table that passes
  pub reads_round : Reads fs tab → (f : Flow) → Mem f fs → (t : ℕ) × (t < f.interval) × Round 0 (cycle fs) (to f.number tab) f t
  unfolding last grants_of
  reads_round r f m =
      let gs = to f.number tab in
      let count = all_mem (λ f. length (to f.number tab) ≡ grants_of (cycle fs) f) fs r.counted f m in
      let some : 0 < length gs = rw count (granted fs ok f m) in
      let t = pass_times 0 fs ok.distinct [] tab r.listed r.timely in
      let l : length (times 0 f.number tab) ≡ length gs = length-map gs (nominal 0) in
      let p = first-progression f.interval (times 0 f.number tab) (t.follows f m) (rw l some) in (
        p.0,
        p.1,
        record {
          granted = some;
          fills = rw count (divides-cycle fs ok f m);
          punctual =
              all_imp (λ g. Punctual 0 fs g × (g.flow ≡ f.number)) (λ g. (g.late ≤ f.jitter) × (g.late ≤ 0 + g.start)) gs
              (λ g a. let e : look fs g.flow ≡ f = ap (look fs) a.1 ∙ look_mem fs ok.distinct f m in rw e at a.0)
              (to-all (Punctual 0 fs) f.number tab t.punctual);
          times = p.2 ∙ ap (progression p.0 f.interval) l;
        },
      )

  reads_law : Reads fs tab → Law 0 fs tab
  reads_law r =
      record {
        listed = r.listed;
        obeyed =
            mem_all (λ f. Obeys 0 (cycle fs) (to f.number tab) f) fs
            (λ f m. let o = reads_round r f m in round_obeys 0 (cycle fs) (to f.number tab) f o.0 o.2);
        once = chain_once 0 fs 0 tab (rw e (inside_chain fs tab r.clear r.inside));
      }
    where
      e : 0 + cycle fs ≡ cycle fs
      e = omega arith

  -- ---- what obeys passes

  module _ (rises : Rising tab) (law : Law 0 fs tab) (inside : Inside fs tab) where
    -- one round of a flow whose grants keep its rule
    round : (f : Flow) → Mem f fs → (t : ℕ) × Round 0 (cycle fs) (to f.number tab) f t
    round f m =
        let o = all_mem (λ f. Obeys 0 (cycle fs) (to f.number tab) f) fs law.obeyed f m in
        (o.reference, obeys_round 0 (cycle fs) (to f.number tab) f o)

    -- every grant takes a slot
    sized : All (λ r. 0 < slots fs r) tab
    sized = slots_pos fs tab (mem_all (λ f. 0 < occupies f) fs (occupies_pos fs ok)) law.listed

    -- every start lies in the cycle
    early : All (λ r. r.start < cycle fs) tab
    early =
        mem_all (λ r. r.start < cycle fs) tab
        (λ r m. omega (arith, all_mem (λ r. 0 < slots fs r) tab sized r m, all_mem (λ r. r.start + slots fs r ≤ cycle fs) tab inside r m))

    -- test 16, grant by grant and flow by flow
    punctual : (r : Grant) → Mem r tab → Punctual 0 fs r
    punctual r m =
        let g = known_mem fs r.flow (all_mem (λ r. known fs r.flow ≡ true) tab law.listed r m) in
        let f = look fs r.flow in
        all_mem (λ g. (g.late ≤ f.jitter) × (g.late ≤ 0 + g.start)) (to f.number tab) (round f g.0).1.punctual r (rw g.1 (mem_to r tab m))

    follows : (f : Flow) → Mem f fs → Follows f.interval none (times 0 f.number tab)
    follows f m =
        let o = round f m in
        let gs = to f.number tab in
        let own =
        all_imp (λ r. (r.start < cycle fs) × (r.flow ≡ f.number)) (λ r. r.start < cycle fs) gs (λ r a. a.0)
        (to-all (λ r. r.start < cycle fs) f.number tab early) in
        let t : o.0 < f.interval = omega (arith, round_early 0 (cycle fs) gs f o.0 o.1 own) in
        rw o.1.times (progression-first f.interval o.0 (length gs) t)

    law_reads : Reads fs tab
    unfolding last grants_of
    law_reads =
        record {
          listed = law.listed;
          counted =
              mem_all (λ f. length (to f.number tab) ≡ grants_of (cycle fs) f) fs
              (λ f m. sym (div-eq_of_eq-mul_left (interval_pos fs ok f m) (sym (round f m).1.fills)));
          timely =
              times_pass 0 fs ok.distinct [] tab law.listed (record { punctual = mem_all (Punctual 0 fs) tab punctual; follows = follows });
          clear = once_clear 0 fs tab rises sized law.once;
          inside = inside;
        }

  -- a table passes tests 12 and 14 to 18 exactly when its starts rise, its grants repeated forever obey the law, and each ends inside the cycle
  pub check_is_law : ((test12 tab ≡ Passed) × (tests14to18 fs tab ≡ Passed)) ↔ (Rising tab × Law 0 fs tab × Inside fs tab)
  check_is_law =
      let s = reads12 tab in
      let a = passes_reads fs tab in (
        λ h. let r = a.0 h.1 in (s.0 h.0, reads_law r, r.inside),
        λ l. (s.1 l.0, a.1 (law_reads l.0 l.1 l.2)),
      )
