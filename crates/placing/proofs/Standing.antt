-- Every layout that the rule comes to is lawful, and each flow's nominal times step by its interval. Assumes nothing.
use mathlib.Core.Path.{◌≡◌, refl, sym, ap, ◌∙◌, subst}
use mathlib.Core.List.{List, [], ◌∷◌}
use Prim.Native.Nat.{ℕ, suc, ◌+◌, ◌*◌, ◌/◌, ◌≤◌, ◌<◌}
use native.Mathlib.Omega.{arith}
use lib.Dec.{eqb}
use lib.ListN.{length}
use Rattle.logic.specs.Lists.{All, sum}
use Rattle.logic.proofs.Tests.{by_test, by_eq}
use Rattle.logic.proofs.Members.{Mem, mem_all}
use Rattle.logic.proofs.Progressions.{progression}
use Rattle.flows.specs.declared.flow.Flow.{Flow}
use Rattle.lists.specs.Facts.{cycle, frame}
use Rattle.lists.specs.Accepted.{Accepted}
use Rattle.lists.proofs.Cycle.{interval_pos, interval-divides, frame-divides, cycle_in}
use Rattle.tables.specs.declared.packed.Grant.{Grant}
use Rattle.law.specs.Check.{to}
use Rattle.law.proofs.Listed.{mem_known, look_mem}
use Rattle.law.proofs.Counting.{mark, mark_same, mark-other, look-sum}
use Rattle.law.proofs.Chains.{chain_before}
use Rattle.law.proofs.Times.{times}
use Rattle.placing.specs.Rule.{done, Settled, Frame, content, weight, olds, group, rep, opened, settle, layout, rows}
use Rattle.placing.proofs.Overhangs.{passing, Each, Spare, Based}
use Rattle.placing.proofs.Placed.{newly, Newly}
use Rattle.placing.proofs.Groups.{Grouped, group_leaves}
use Rattle.placing.proofs.Layouts.{opened-newly, opened-news, rep-passing, rep_each, granted, settle-passing, settle_each}
use Rattle.placing.proofs.Ended.{ended-olds, ended-wide, ended-granted}
use Rattle.placing.proofs.Nominals.{nominals, numbered, nominals-length, nominals-rep, nominals-settle}
use Rattle.placing.proofs.Tables.{timed_slots, rows-times, rows_timed, rows_chain}
use Rattle.placing.proofs.Windows.{layout-keep}

-- a flow's grants in a layout step by its interval, the first below it, and fill the window
pub record Steps (φ : ℕ) (hs : List (List Settled)) (f : Flow) : Type 0 where
  pub first : ℕ
  pub rounds : ℕ
  pub early : first < f.interval
  pub fills : rounds * f.interval ≡ length hs * φ
  pub times : nominals φ f.number 0 hs ≡ progression first f.interval rounds

-- a layout of s slots in which the flows of intervals up to t are placed
pub record Stands (fs : List Flow) (t s : ℕ) (hs : List (List Settled)) : Type 0 where
  pub wide : length hs * frame fs ≡ s
  pub reached : (g : Flow) → Mem g fs → g.interval ≡ t → s ≡ t
  pub divides : (g : Flow) → Mem g fs → t < g.interval → (g.interval / s) * s ≡ g.interval
  pub clear : passing (frame fs) 0 (opened hs) ≡ 0
  pub spare : Each (Spare 0) (frame fs) 0 (opened hs)
  pub based : Each (Based (λ f. Mem f fs)) (frame fs) 0 (opened hs)
  pub steps : (f : Flow) → Mem f fs → f.interval ≤ t → Steps (frame fs) hs f
  pub awaited : (f : Flow) → Mem f fs → t < f.interval → granted (numbered f.number) hs ≡ 0

-- the times of records that start before b
times-before : (n b : ℕ) (rs : List Grant) → All (λ r. r.start < b) rs → All (λ t. t < b) (times 0 n rs)
unfolding to
times-before n b [] a = tt
times-before n b (r ∷ rs) a =
    by_test (eqb r.flow n) (λ e. rw (e, to) (omega arith, times-before n b rs a.1)) (λ e. rw (e, to) (times-before n b rs a.1))

-- one time before b is a progression of any step
only : (b i : ℕ) (ts : List ℕ) → b ≡ i → length ts ≡ 1 → All (λ t. t < b) ts → (u : ℕ) × (u < i) × (ts ≡ progression u i 1)
unfolding progression
only b i [] e h a = absurd (omega arith)
only b i (t ∷ []) e h a = (t, omega arith, refl)
only b i (t ∷ s ∷ ts) e h a = absurd (omega arith)

module _ (fs : List Flow) (ok : Accepted fs) where
  -- before the first group
  start : Stands fs 0 (frame fs) ([] ∷ [])
  unfolding passing opened content weight sum granted
  start =
      record {
        wide = omega arith;
        reached = λ g m e. absurd (omega (arith, interval_pos fs ok g m));
        divides = λ g m l. frame-divides fs ok g m;
        clear = omega arith;
        spare = (tt, tt);
        based = (tt, tt);
        steps = λ f m l. absurd (omega (arith, interval_pos fs ok f m));
        awaited = λ f m l. refl;
      }

  -- where no flow has the next length
  passed : (t s : ℕ) (hs : List (List Settled)) → ((g : Flow) → Mem g fs → g.interval ≡ suc t → ⊥) → Stands fs t s hs → Stands fs (suc t) s hs
  passed t s hs none a =
      record {
        wide = a.wide;
        reached = λ g m e. absurd (none g m e);
        divides = λ g m l. a.divides g m (omega arith);
        clear = a.clear;
        spare = a.spare;
        based = a.based;
        steps = λ f m l. by_eq f.interval (suc t) (λ e. absurd (none f m e)) (λ e. a.steps f m (omega arith));
        awaited = λ f m l. a.awaited f m (omega arith);
      }

  -- the group of interval i: k copies of hs, and xs when its flows are placed
  module _ (t i s : ℕ) (hs : List (List Settled)) (a : Stands fs t s hs) (next : i ≡ suc t) (g : Flow) (own : Mem g fs) (here : g.interval ≡ i)
      (xs : List Frame) (e : group (frame fs) i 1 (opened (rep (i / s) hs)) fs ≡ done xs) where
    abbrev φ : ℕ
    φ = frame fs

    abbrev k : ℕ
    k = i / s

    abbrev copies : List (List Settled)
    copies = rep k hs

    abbrev ended : List (List Settled)
    ended = settle φ 0 xs

    whole : k * s ≡ i
    whole = rw (← here) (a.divides g own (omega arith))

    left : Grouped (λ f. Mem f fs) φ i fs (opened copies) xs
    left = group_leaves (λ f. Mem f fs) φ i 1 fs (opened copies) xs e

    old : olds xs ≡ copies
    old = ended-olds (λ f. Mem f fs) φ i k fs hs xs left

    lawful : (passing φ 0 xs ≡ 0) × Each (Spare 0) φ 0 xs
    lawful = left.lawful (rep-passing φ hs a.clear k) (rep_each φ hs a.clear (Spare 0) k a.spare)

    news : Newly (λ f. Mem f fs) xs
    news = left.news (mem_all (λ f. f.interval ≡ i → Mem f fs) fs (λ f m q. m)) (opened-news (λ f. Mem f fs) copies)

    wide : length ended * φ ≡ i
    wide = ended-wide (λ f. Mem f fs) φ i k fs hs xs left s a.wide whole

    clear : passing φ 0 (opened ended) ≡ 0
    clear = settle-passing φ 0 xs ∙ lawful.0

    spare : Each (Spare 0) φ 0 (opened ended)
    spare = settle_each (λ o g. o + 0 ≤ g.base + g.flow.jitter) (λ f. Mem f fs) (λ o f m. omega arith) φ 0 xs news lawful.1

    based : Each (Based (λ f. Mem f fs)) φ 0 (opened ended)
    based =
        settle_each (λ o g. (g.base ≤ o) × Mem g.flow fs) (λ f. Mem f fs) (λ o f m. (omega arith, m)) φ 0 xs news
        (left.based (rep_each φ hs a.clear (Based (λ f. Mem f fs)) k a.based))

    -- the group has a flow exactly if the flow has its interval
    share : (f : Flow) → Mem f fs → sum (λ g. mark g.interval i * numbered f.number g) fs ≡ mark f.interval i
    share f m =
        look-sum (λ g. mark g.interval i) fs ok.distinct f.number (mem_known fs f m)
        ∙ ap (λ (x : Flow). mark x.interval i) (look_mem fs ok.distinct f m)

    new : (f : Flow) → Mem f fs → newly (numbered f.number) xs ≡ mark f.interval i
    new f m = left.added (numbered f.number) ∙ omega (arith, opened-newly (numbered f.number) copies, share f m)

    many : (f : Flow) → Mem f fs → granted (numbered f.number) ended ≡ k * granted (numbered f.number) hs + mark f.interval i
    many f m = ended-granted (λ f. Mem f fs) φ i k fs hs xs left (numbered f.number) ∙ omega (arith, share f m)

    -- every record of the group's window starts inside it
    inside : All (λ r. r.start < i) (rows φ 0 0 ended)
    inside =
        let chain = rows_chain fs ok φ 0 0 i ended based (omega (arith, wide, clear)) in
        chain_before fs (0 + 0) i (rows φ 0 0 ended) (timed_slots fs ok (rows φ 0 0 ended) (rows_timed fs ok φ 0 0 ended based spare)) chain

    -- its own flows have one time each, and those of earlier groups go on
    steps : (f : Flow) → Mem f fs → f.interval ≤ i → Steps φ ended f
    steps f m l =
        by_eq f.interval i
        (λ q.
        let one : length (nominals φ f.number 0 ended) ≡ 1 =
        nominals-length φ f.number 0 ended
        ∙ omega (arith, many f m, ap (λ (x : ℕ). k * x) (a.awaited f m (omega arith)), mark_same f.interval i q) in
        let y =
        only i f.interval (nominals φ f.number 0 ended) (sym q) one
        (subst (λ (ts : List ℕ). All (λ t. t < i) ts) (rows-times (λ f. Mem f fs) φ f.number 0 0 ended based) (times-before f.number i (rows φ 0 0 ended) inside)) in
        record { first = y.0; rounds = 1; early = y.1; fills = omega (arith, wide); times = y.2 })
        (λ q.
        let b = a.steps f m (omega arith) in
        record {
          first = b.first;
          rounds = k * b.rounds;
          early = b.early;
          fills = omega (arith, wide, whole, a.wide, ap (λ (x : ℕ). k * x) b.fills, ap (λ (x : ℕ). k * x) a.wide);
          times =
              nominals-settle φ f.number 0 0 xs (new f m ∙ mark-other f.interval i q)
              ∙ ap (nominals φ f.number 0) old
              ∙ nominals-rep φ f.number 0 b.first f.interval b.rounds k hs b.times b.fills;
        })

    -- so the layout that it leaves stands
    settles : Stands fs i i ended
    settles =
        record {
          wide = wide;
          reached = λ g m q. refl;
          divides = λ f m l. rw (← here) (interval-divides fs ok g f own m (omega arith));
          clear = clear;
          spare = spare;
          based = based;
          steps = steps;
          awaited = λ f m l. many f m ∙ omega (arith, ap (λ (x : ℕ). k * x) (a.awaited f m (omega arith)), mark-other f.interval i (λ q. omega arith));
        }

  -- the layout of a list stands, and fills the cycle
  pub stands : (r : List (List Settled)) → layout fs ≡ done r → Stands fs (cycle fs) (cycle fs) r
  stands r e =
      let y = layout-keep fs (Stands fs) passed (λ t s hs xs g m n w a. settles t (suc t) s hs a refl g m n xs w) r e start in
      let c = cycle_in fs ok in
      subst (λ (w : ℕ). Stands fs (cycle fs) w r) (y.1.reached c.0 c.1 c.2) y.1
