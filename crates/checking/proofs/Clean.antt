-- A table in which a walk finds no fault, and the counts of its flows. Assumes nothing.
use Rattle.std.proofs.Common.{◌≡◌, refl, sym, ap, ◌∙◌, true, ◌&&◌, List, ℕ, ◌+◌, ◌-◌, ◌*◌, ◌/◌, ◌≤◌, ◌<◌, arith, leb, length, get_or, set, replicate}
use borrow.Author.Tests.{eq-eqb}
use Rattle.logic.proofs.Tests.{and_both}
use Rattle.logic.proofs.Members.{mem_all, all_get_d, get_d_all}
use Rattle.flows.specs.declared.flow.Flow.{Flow}
use Rattle.flows.specs.Flows.{no_flow, keeps}
use Rattle.flows.proofs.Flows.{Keeps, keeps_is}
use Rattle.refusals.specs.declared.Refusal.TheVariants.{GrantCount}
use Rattle.refusals.specs.Results.{Passed}
use Rattle.refusals.proofs.Walks.{before}
use Rattle.refusals.proofs.Entries.{each_passed}
use Rattle.lists.specs.Facts.{occupies, cycle, grants_of}
use Rattle.lists.specs.Accepted.{Accepted}
use Rattle.lists.proofs.Cycle.{divides-cycle}
use Rattle.tables.specs.declared.packed.Grant.{Grant}
use Rattle.law.specs.Check.{look, listed, timely, counted, test15, tests14to18}
use Rattle.law.specs.Law.{blank}
use Rattle.checking.specs.declared.seen.Seen.{Seen}
use Rattle.checking.specs.Parts.{number_of, Steady, Spaced, Filled, on_time, tests_with}
use Rattle.checking.proofs.Turns.{CountAt, count_none, count_end, count-own, count-other}
use Rattle.checking.proofs.Cells.{apart, cells_next, zeros}
use Rattle.checking.proofs.Steps.{steady_grant, steady_count}
use Rattle.checking.proofs.Walked.{Walked, walked_next, walked_end}

-- ---- the walk

-- no fault is seen, and the last grant ends at e
abbrev pub clean : ℕ → Seen
clean e = record { timing = Passed; overlap = Passed; past = Passed; end = e }

module _ (fs : List Flow) (gs : List Grant) (i e : ℕ) (a : Walked fs gs i (clean e)) where
  -- record i is a grant of flow f, which ends at z, and passes
  pub clean-next : i < length gs → (g : Grant) → g ≡ get_or gs i blank → listed fs g ≡ true → (f : Flow) → f ≡ look fs g.flow → true ≡ timely 0 fs (before gs blank i) g
      → (c : ℕ) → c ≡ cycle fs → (z : ℕ) → z ≡ g.start + occupies f → leb e g.start && leb z c ≡ true → Walked fs gs (i + 1) (clean z)
  clean-next h g q k f l t c w z r b =
      let both = and_both (leb e g.start) (leb z c) b in
      rw r (rw (both.0, rw r at both.1) at (walked_next fs gs i (clean e) a h g q k f l true t c w))

  pub clean_end : length gs ≤ i → tests_with fs gs Passed ≡ Passed
  clean_end h = sym (walked_end fs gs i (clean e) a h Passed)

-- ---- the nominal times of each flow

-- every flow of an accepted list keeps its rule
pub kept_at : (fs : List Flow) → Accepted fs → (k : ℕ) → k < length fs → Keeps (get_or fs k no_flow)
kept_at fs ok k h = keeps_is (get_or fs k no_flow) (all_get_d (λ f. keeps f ≡ true) no_flow fs ok.ruled k h)

-- flow k has so many grants before record i, and the last one's stamp is v
pub record Trace (fs : List Flow) (gs : List Grant) (i k v : ℕ) : Type 0 where
  pub grants : ℕ
  pub count : CountAt gs (number_of fs k) i grants
  pub steady : Steady (get_or fs k no_flow).interval grants (cycle fs) v

-- each cell says the last one's
abbrev pub Traces : List Flow → List Grant → ℕ → List ℕ → Type 0
Traces fs gs i cs = (k : ℕ) → k < length fs → Trace fs gs i k (get_or cs k 0)

module _ (fs : List Flow) (ok : Accepted fs) (gs : List Grant) where
  pub traces_none : Traces fs gs 0 (replicate 128 0)
  traces_none k h =
      rw (zeros k (omega (arith, ok.few)))
      (record {
        grants = 0;
        count = count_none gs (number_of fs k);
        steady = record { none = λ q. refl; above = omega (arith, (kept_at fs ok k h).timed); below = omega arith; inside = omega arith };
      })

  -- record i is a grant of flow k, on time, and ends inside the cycle
  pub traces_next : (i : ℕ) (cs : List ℕ) → Traces fs gs i cs → i < length gs → (g : Grant) → g ≡ get_or gs i blank → (k : ℕ) → k < length fs → k < length cs → number_of fs k ≡ g.flow
      → (j : ℕ) → on_time j (get_or fs k no_flow).interval (get_or cs k 0) g.start g.late ≡ true → (end : ℕ) → g.start < end → end ≤ cycle fs
      → Traces fs gs (i + 1) (set cs k ((g.start - g.late) + 1))
  traces_next i cs a h g e k l w q j t end p r =
      let b = a k l in
      cells_next (Trace fs gs i) (Trace fs gs (i + 1)) cs (length fs) k ((g.start - g.late) + 1) w
      (record {
        grants = b.grants + 1;
        count = count-own gs (number_of fs k) i b.grants b.count h g e (sym q);
        steady = steady_grant j (get_or fs k no_flow).interval b.grants (cycle fs) (get_or cs k 0) g.start g.late end b.steady t p r;
      })
      (λ m x u n d.
      record {
        grants = d.grants;
        count = count-other gs (number_of fs m) i d.grants d.count h g e (λ y. n (apart fs ok.distinct m k u l (sym y ∙ sym q)));
        steady = d.steady;
      })
      a

  pub traces_end : (i : ℕ) (cs : List ℕ) → length gs ≤ i → Traces fs gs i cs → Spaced fs gs cs
  traces_end i cs h a k l =
      let b = a k l in
      rw (← count_end gs (number_of fs k) i b.grants b.count h) b.steady

  -- ---- the answer

  -- each flow has cycle / interval grants where its last one is in the cycle's last interval
  all-counted : (cs : List ℕ) → Spaced fs gs cs → Filled fs cs → test15 fs gs ≡ Passed
  unfolding test15 counted grants_of
  all-counted cs s h =
      (each_passed (counted fs gs) (λ f. counted fs gs f ≡ true) (λ f. (λ x. x, λ x. x)) GrantCount 1 fs).1
      (get_d_all (λ f. counted fs gs f ≡ true) no_flow fs (λ k l.
      eq-eqb _ _
      (steady_count (get_or fs k no_flow).interval _ (cycle fs) (get_or cs k 0) _ (s k l)
      (all_get_d (λ f. (cycle fs / f.interval) * f.interval ≡ cycle fs) no_flow fs (mem_all (λ f. (cycle fs / f.interval) * f.interval ≡ cycle fs) fs (divides-cycle fs ok)) k l)
      (h k l))))

  pub clean-passes : (cs : List ℕ) → tests_with fs gs Passed ≡ Passed → Spaced fs gs cs → Filled fs cs → tests14to18 fs gs ≡ Passed
  unfolding tests14to18
  clean-passes cs e s h = ap (tests_with fs gs) (all-counted cs s h) ∙ e
