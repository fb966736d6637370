-- What it is that the new flow fits, of the grants of the new table. Assumes nothing.
use mathlib.Core.Path.{◌≡◌, refl, sym, ap, subst, ◌∙◌}
use mathlib.Core.Bool.{true, or-true}
use mathlib.Core.Logic.{◌↔◌, inl, inr, ⊎_elim}
use mathlib.Core.List.{List, [], ◌∷◌, ◌++◌}
use Prim.Native.Nat.{ℕ, zero, suc, ◌+◌, ◌*◌, ◌≤◌, ◌<◌}
use native.Mathlib.Omega.{arith}
use lib.Dec.{leb}
use lib.ListN.{length}
use borrow.Author.Tests.{leb-true, le-leb}
use Rattle.logic.specs.Lists.{All, every}
use Rattle.logic.proofs.Tests.{by_test, and_both, both_and}
use Rattle.logic.proofs.Members.{all_mem, mem_all, all_imp, all_both, all_each, every-all, all-every}
use Rattle.logic.proofs.Appends.{all_append, mem_behind}
use Rattle.logic.proofs.Progressions.{progression}
use Rattle.flows.specs.declared.flow.Flow.{Flow}
use Rattle.flows.proofs.Flows.{Keeps}
use Rattle.lists.specs.Facts.{occupies, cycle, frame, grants_of, grants}
use Rattle.lists.specs.Accepted.{Accepted}
use Rattle.lists.proofs.Cycle.{kept, occupies_pos, divides-cycle, cycle-fits, granted}
use Rattle.lists.proofs.OneMore.{cycle_same, grants-more, last-new}
use Rattle.tables.specs.declared.packed.Grant.{Grant}
use Rattle.tables.proofs.Meaning.{Fits, Holds}
use Rattle.law.specs.Check.{known, look, slots, to}
use Rattle.law.specs.Law.{Obeys, Law, Rising, Inside}
use Rattle.law.proofs.Listed.{known_mem, mem_known, look_mem, slots_pos}
use Rattle.law.proofs.OneMore.{look-more}
use Rattle.law.proofs.FlowGrants.{to-all}
use Rattle.law.proofs.Chains.{Chain, chain_same, inside_chain, chain_inside, chain_rising, chain_once}
use Rattle.law.proofs.Rounds.{Round, round_obeys}
use Rattle.law.proofs.Reading.{Reads}
use Rattle.law.proofs.CheckIsLaw.{reads_round}
use Rattle.offsets.specs.Offsets.{grants_from, new_grants, apart, free, fits, joined, others}
use Rattle.offsets.proofs.Joining.{all-joined, length-joined, from-after, from-before, length_from}
use Rattle.offsets.proofs.Among.{others_each, Prompt, from_prompt, joined-others, joined-other, joined-own, from-times, times-from}
use Rattle.offsets.proofs.Apart.{Apart, Cleared, insert_chain, chain_cleared}

-- a list whose last flow is new, with an interval from the frame to the cycle of the flows before it, and their passing grants
pub record New (fs : List Flow) (f : Flow) (gs : List Grant) : Type 0 where
  pub ok : Accepted (fs ++ (f ∷ []))
  pub low : frame fs ≤ f.interval
  pub high : f.interval ≤ cycle fs
  pub reads : Reads fs gs
  pub law : Law 0 fs gs

module _ (fs : List Flow) (f : Flow) (gs : List Grant) (N : New fs f gs) where
  abbrev all : List Flow
  all = fs ++ (f ∷ [])

  rule : Keeps f
  rule = kept all N.ok f (mem_behind fs f [])

  same : cycle all ≡ cycle fs
  same = cycle_same fs f N.low N.high

  -- no old grant is the new flow's
  strangers : All (λ g. g.flow ≡ f.number → ⊥) gs
  strangers =
      all_imp (λ g. known fs g.flow ≡ true) (λ g. g.flow ≡ f.number → ⊥) gs
      (λ g k e.
      let m = known_mem fs g.flow k in
      all_mem (λ h. h.number ≡ f.number → ⊥) fs (last-new fs f N.ok.distinct) (look fs g.flow) m.0 (m.1 ∙ e))
      N.reads.listed

  -- the old grants stand as they stood
  pub old-grants : (o : ℕ) → others f.number (joined (new_grants (cycle fs) f o) gs) ≡ gs
  unfolding new_grants
  old-grants o =
      let ns = grants_from f o (grants_of (cycle fs) f) in
      joined-others f.number ns gs (all_imp (Prompt f) (λ n. n.flow ≡ f.number) ns (λ n a. a.0) (from_prompt f o (grants_of (cycle fs) f))) strangers

  -- the grants besides them are the new flow's
  pub new_grants_lem : (o : ℕ) → to f.number (joined (new_grants (cycle fs) f o) gs) ≡ new_grants (cycle fs) f o
  unfolding new_grants
  new_grants_lem o = joined-own f o (grants_of (cycle fs) f) gs strangers

  -- the new flow's grants fill the cycle
  pub fills : grants_of (cycle fs) f * f.interval ≡ cycle fs
  unfolding grants_of
  fills = rw same at (divides-cycle all N.ok f (mem_behind fs f []))

  -- a packed table can hold the old grants and the new flow's
  pub new-holds : length gs ≡ grants fs → Holds (cycle fs) (frame fs) gs → (o : ℕ) → o < f.interval → Holds (cycle fs) (frame fs) (joined (new_grants (cycle fs) f o) gs)
  unfolding new_grants
  new-holds many h o early =
      let n = grants_of (cycle fs) f in
      let ns = grants_from f o n in
      let long : length (joined ns gs) ≡ length gs + n = length-joined ns gs ∙ rw (length_from f o n) in
      record {
        filled = omega (arith, long, h.filled);
        few = omega (arith, long, many, grants-more fs f N.low N.high, N.ok.grants_le);
        fits =
            all-joined Fits ns gs
            (all_both (Prompt f) (λ g. g.start + f.interval ≤ o + n * f.interval) Fits ns
            (λ g a b.
            record {
              flow_lt = omega (arith, a.0, rule.number_le);
              start_lt = omega (arith, b, fills, cycle-fits all N.ok, same);
              late_lt = omega (arith, a.1);
            })
            (from_prompt f o n) (from-before f o n))
            h.fits;
        cycle_lt = h.cycle_lt;
        frame_lt = h.frame_lt;
      }

  -- ---- slots

  old-slots : All (λ g. slots all g ≡ slots fs g) gs
  unfolding slots
  old-slots =
      all_imp (λ g. known fs g.flow ≡ true) (λ g. slots all g ≡ slots fs g) gs (λ g k. ap occupies (look-more fs f g.flow k).1) N.reads.listed

  new-slots : (n : Grant) → n.flow ≡ f.number → slots all n ≡ occupies f
  unfolding slots
  new-slots n e = ap (λ (x : ℕ). occupies (look all x)) e ∙ ap occupies (look_mem all N.ok.distinct f (mem_behind fs f []))

  apart_is : (n g : Grant) → slots all n ≡ occupies f → slots all g ≡ slots fs g → (apart fs f n g ≡ true) ↔ Apart all n g
  unfolding apart
  apart_is n g p q = (
    λ e.
        by_test (leb (n.start + occupies f) g.start)
        (λ h. inl (rw p (leb-true _ _ h)))
        (λ h. inr (rw q (leb-true _ _ (rw h at e)))),
    ⊎_elim
        (λ h. rw (le-leb (n.start + occupies f) g.start (rw p at h)))
        (λ h. rw (le-leb (g.start + slots fs g) n.start (rw q at h)) (or-true (leb (n.start + occupies f) g.start))),
  )

  -- a new grant is free exactly where it shares no slot with an old one and ends inside the cycle
  free_is : (n : Grant) → n.flow ≡ f.number → (free fs gs f n ≡ true) ↔ (All (Apart all n) gs × (n.start + slots all n ≤ cycle fs))
  unfolding free
  free_is n e =
      let own = new-slots n e in (
        λ h.
            let b = and_both (every (apart fs f n) gs) (leb (n.start + occupies f) (cycle fs)) h in (
              all_both (λ g. apart fs f n g ≡ true) (λ g. slots all g ≡ slots fs g) (Apart all n) gs (λ g a s. (apart_is n g own s).0 a) (every-all (apart fs f n) gs b.0) old-slots,
              rw own (leb-true _ _ b.1),
            ),
        λ h.
            both_and (every (apart fs f n) gs) (leb (n.start + occupies f) (cycle fs))
            (all-every (apart fs f n) gs
            (all_both (Apart all n) (λ g. slots all g ≡ slots fs g) (λ g. apart fs f n g ≡ true) gs (λ g a s. (apart_is n g own s).1 a) h.0 old-slots))
            (le-leb _ _ (rw own at h.1)),
      )

  -- ---- where the flow fits the grants obey the law

  -- every grant is a listed flow's
  listed : (x n : ℕ) → All (λ g. known all g.flow ≡ true) (joined (grants_from f x n) gs)
  listed x n =
      all-joined (λ g. known all g.flow ≡ true) (grants_from f x n) gs
      (all_imp (Prompt f) (λ g. known all g.flow ≡ true) (grants_from f x n) (λ g a. ap (known all) a.0 ∙ mem_known all f (mem_behind fs f [])) (from_prompt f x n))
      (all_imp (λ g. known fs g.flow ≡ true) (λ g. known all g.flow ≡ true) gs (λ g k. (look-more fs f g.flow k).0) N.reads.listed)

  -- and takes a slot
  sized : (x n : ℕ) → All (λ g. 0 < slots all g) (joined (grants_from f x n) gs)
  sized x n = slots_pos all (joined (grants_from f x n) gs) (mem_all (λ f. 0 < occupies f) all (occupies_pos all N.ok)) (listed x n)

  -- one after another
  joined_chain : (x n : ℕ) → every (free fs gs f) (grants_from f x n) ≡ true → Chain all 0 (cycle fs) (joined (grants_from f x n) gs)
  unfolding grants_from joined every occupies
  joined_chain x zero h = chain_same fs all 0 (cycle fs) gs old-slots (inside_chain fs gs N.reads.clear N.reads.inside)
  joined_chain x (suc n) h =
      let g : Grant = record { flow = f.number; start = x; late = 0 } in
      let ns = grants_from f (x + f.interval) n in
      let b = and_both (free fs gs f g) (every (free fs gs f) ns) h in
      let i = (free_is g refl).0 b.0 in
      insert_chain all g 0 (cycle fs) (joined ns gs) (sized (x + f.interval) n) (joined_chain (x + f.interval) n b.1) (omega arith) i.1
      (all-joined (Apart all g) ns gs
      (all_imp (λ m. x + f.interval ≤ m.start) (Apart all g) ns (λ m q. inl (omega (arith, new-slots g refl, rule.fitting))) (from-after f (x + f.interval) n))
      i.0)

  -- the new flow's round, for the offset o
  new-round : (o : ℕ) → Round 0 (cycle fs) (new_grants (cycle fs) f o) f o
  unfolding new_grants grants_of
  new-round o =
      let n = grants_of (cycle fs) f in
      let ns = grants_from f o n in
      record {
        granted = rw (length_from f o n) (rw same at (granted all N.ok f (mem_behind fs f [])));
        fills = rw (length_from f o n) fills;
        punctual =
            all_imp (Prompt f) (λ g. (g.late ≤ f.jitter) × (g.late ≤ 0 + g.start)) ns (λ g a. (omega arith, omega arith)) (from_prompt f o n);
        times = from-times f o n ∙ ap (progression o f.interval) (sym (length_from f o n));
      }

  module _ (o : ℕ) (fit : fits fs gs f o ≡ true) where
    abbrev table : List Grant
    table = joined (new_grants (cycle fs) f o) gs

    new_chain_lem : Chain all 0 (cycle fs) table
    unfolding fits new_grants
    new_chain_lem = joined_chain o (grants_of (cycle fs) f) fit

    pub new-rising : Rising table
    unfolding new_grants
    new-rising = chain_rising all 0 (cycle fs) table (sized o (grants_of (cycle fs) f)) new_chain_lem

    pub new_inside : Inside all table
    new_inside = rw same (chain_inside all 0 (cycle fs) table new_chain_lem)

    -- each old flow's grants are what they were
    old_obeys : All (λ g. Obeys 0 (cycle all) (to g.number table) g) fs
    unfolding new_grants
    old_obeys =
        let n = grants_of (cycle fs) f in
        all_both (λ g. g.number ≡ f.number → ⊥) (λ g. Obeys 0 (cycle fs) (to g.number gs) g) (λ g. Obeys 0 (cycle all) (to g.number table) g) fs
        (λ g d r.
        let own : to g.number table ≡ to g.number gs =
        joined-other g.number (grants_from f o n) gs
        (all_imp (Prompt f) (λ n. n.flow ≡ g.number → ⊥) (grants_from f o n) (λ n a e. d (sym e ∙ a.0)) (from_prompt f o n)) in
        rw (same, own) r)
        (last-new fs f N.ok.distinct) N.law.obeyed

    new_obeys : Obeys 0 (cycle all) (to f.number table) f
    new_obeys = rw (same, new_grants_lem o) (round_obeys 0 (cycle fs) (new_grants (cycle fs) f o) f o (new-round o))

    pub new_law : Law 0 all table
    unfolding new_grants
    new_law =
        let c : 0 + cycle all ≡ cycle fs = omega (arith, same) in
        record {
          listed = listed o (grants_of (cycle fs) f);
          obeyed = all_append (λ g. Obeys 0 (cycle all) (to g.number table) g) fs (f ∷ []) old_obeys (new_obeys, tt);
          once = chain_once 0 all 0 table (rw c new_chain_lem);
        }

  -- ---- where the grants obey the law the flow fits

  -- a grant of a table that is cleared of all of it and ends inside the cycle
  abbrev Placed : List Grant → Grant → Type 0
  Placed tab n = All (Cleared all n) tab × (n.start + slots all n ≤ cycle fs)

  -- a passing table with the old grants as they stood, and besides them the new flow's for the offset o
  pub reads_fits : (tab : List Grant) → Reads all tab → others f.number tab ≡ gs → (o : ℕ) → to f.number tab ≡ new_grants (cycle fs) f o → fits fs gs f o ≡ true
  unfolding fits
  reads_fits tab r old o new =
      let c : Chain all 0 (cycle fs) tab = rw same at (inside_chain all tab r.clear r.inside) in
      ap (every (free fs gs f)) (sym new)
      ∙ all-every (free fs gs f) (to f.number tab)
      (all_imp (λ n. Placed tab n × (n.flow ≡ f.number)) (λ n. free fs gs f n ≡ true) (to f.number tab)
      (λ n a.
      (free_is n a.1).1 (
        subst (All (Apart all n)) old
            (all_imp (λ g. Cleared all n g × (g.flow ≡ f.number → ⊥)) (Apart all n) (others f.number tab) (λ g b. b.0 (λ e. b.1 (sym e ∙ a.1))) (others_each (Cleared all n) f.number tab a.0.0)),
        a.0.1,
      ))
      (to-all (Placed tab) f.number tab
      (all_both (λ n. All (Cleared all n) tab) (λ n. n.start + slots all n ≤ cycle fs) (Placed tab) tab (λ n a b. (a, b)) (chain_cleared all 0 (cycle fs) tab c) (chain_inside all 0 (cycle fs) tab c))))

  -- any passing table in which the old grants stand as they stood, with the new flow's not late
  pub standing : (tab : List Grant) → Reads all tab → others f.number tab ≡ gs → All (λ g. g.late ≡ 0) (to f.number tab)
      → (o : ℕ) × (o < f.interval) × (fits fs gs f o ≡ true)
  unfolding new_grants
  standing tab r old prompt =
      let y = reads_round all N.ok tab r f (mem_behind fs f []) in
      let own = to f.number tab in
      let count : length own ≡ grants_of (cycle fs) f =
      rw same at (all_mem (λ g. length (to g.number tab) ≡ grants_of (cycle all) g) all r.counted f (mem_behind fs f [])) in
      let whose =
      all_both (λ g. Unit × (g.flow ≡ f.number)) (λ g. g.late ≡ 0) (Prompt f) own (λ g a b. (a.1, b))
      (to-all (λ g. Unit) f.number tab (all_each (λ g. Unit) tab (λ g. tt))) prompt in (
        y.0,
        y.1,
        reads_fits tab r old y.0
            (times-from f y.0 (grants_of (cycle fs) f) own whose (y.2.times ∙ ap (progression y.0 f.interval) count)),
      )
