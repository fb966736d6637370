-- From group to group. Assumes nothing.
use Rattle.std.proofs.Common.{Option, Some, None, Result, Ok, Err, ◌≡◌, refl, sym, ap, ◌∙◌, subst, true, List, [], ◌∷◌, ◌++◌, ℕ, zero, suc, ◌+◌, ◌-◌, ◌*◌, ◌/◌, ◌≤◌, ◌<◌, arith, length, get_or, take, drop, length-take-le, take-take, take_at}
use Rattle.logic.specs.Lists.{sum}
use Rattle.flows.specs.declared.flow.Flow.{Flow}
use Rattle.lists.specs.Facts.{frame}
use Rattle.placing.specs.Rule.{Outcome, done, refused, Settled, Frame, weight, within, lawful, group, rep, opened, settle, groups, layout}
use Rattle.planner.specs.Cells.{loads}
use Rattle.planner.specs.Intervals.{next_interval, from}
use Rattle.planner.specs.Cells.{free, limit, limits, standing}
use Rattle.planner.specs.State.{Agrees, Opened, Closed, Ready, Added}
use Rattle.planner.specs.Finished.{Finished}
use Rattle.lists.specs.Accepted.{Accepted}
use Rattle.planner.proofs.Bounds.{small, interval_le, frames_le}
use Rattle.placing.proofs.Layouts.{settle-length}
use Rattle.planner.proofs.Grouping.{no_frame-not-lawful}
use Rattle.planner.proofs.Growing.{Grown, grown_start, times_positive, window_frames, window-slots, window-fits, to_come, grown_next, grown_all}
use Rattle.planner.proofs.Rising.{from-none}

-- the groups before that of interval i, or all, are placed, in a window of t slots
pub record Upto (φ : ℕ) (i : Option ℕ) (t w : ℕ) (fs : List Flow) (is : List ℕ) (hs : List (List Settled)) (cs ls ks bs : List ℕ) : Type 0 where
  pub agrees : Agrees φ fs is hs (take w cs) (take w ls) ks bs
  pub wide : length hs ≡ w
  pub grown : Grown φ i t w fs is
  pub rest : groups φ fs t hs (from fs i) ≡ layout fs

-- ---- the start: one empty frame

empty-lawful : (φ : ℕ) → lawful φ 0 (loads ([] ∷ [])) ([] ∷ []) ≡ true
unfolding lawful loads weight sum within
empty-lawful φ = let z : 0 + 0 - φ ≡ 0 = omega arith in rw z

pub upto_start : (fs : List Flow) (cs ls ks bs : List ℕ) → Accepted fs → take 1 cs ≡ 0 ∷ [] → take 1 ls ≡ free ∷ []
    → Upto (frame fs) (Some (frame fs)) (frame fs) 1 fs [] ([] ∷ []) cs ls ks bs
unfolding loads weight sum limits limit standing layout
upto_start fs cs ls ks bs A ec el =
    record {
      agrees = record { content = ec; limit = el; law = empty-lawful (frame fs); stand = λ m h. single m h };
      wide = refl;
      grown = grown_start fs A;
      rest = ap (groups (frame fs) fs (frame fs) ([] ∷ [])) (grown_start fs A).order;
    }
  where
    single : (m : ℕ) → m < 1 → get_or {A = List Settled} ([] ∷ []) m [] ≡ []
    single zero h = refl
    single (suc m) h = absurd (omega arith)

-- ---- the window of the next group

module _ {φ i t w : ℕ} {fs : List Flow} {is : List ℕ} {hs : List (List Settled)} {cs ls ks bs : List ℕ} (A : Accepted fs)
    (R : Upto φ (Some i) t w fs is hs cs ls ks bs) where
  abbrev G : Grown φ (Some i) t w fs is
  G = R.grown

  unfoldable upto_opens : φ ≡ frame fs → i / φ ≤ length cs → i / φ ≤ length ls → Opened φ i w fs is hs (take (i / φ) cs) (take (i / φ) ls) ks bs
  upto_opens f c l =
      let S = R.agrees in
      let many : length (take (i / φ) cs) ≡ i / φ = length-take-le (i / φ) cs c in
      record {
        agrees = record {
          content = take-take w (i / φ) cs (window-fits A G) ∙ S.content;
          limit = take-take w (i / φ) ls (window-fits A G) ∙ S.limit;
          law = S.law;
          stand = S.stand;
        };
        wide = R.wide;
        some = G.some;
        times = i / t;
        whole = many ∙ window_frames A G;
        positive = times_positive A G;
        before = (G.next i refl).2;
        frames = many;
        slots = ap (λ (x : ℕ). x * φ) many ∙ window-slots A G;
        most = omega (arith, rw (sym f) at (frames_le fs A i (G.next i refl).1));
        same = length-take-le (i / φ) ls l ∙ sym many;
        low = interval_le fs A i (G.next i refl).1;
        small = small fs A;
      }

  layout_on : (r : Outcome (List Frame)) → group φ i 1 (opened (rep (i / t) hs)) fs ≡ r
      → layout fs ≡ elim r [ done L ↦ groups φ fs i (settle φ 0 L) (from fs (next_interval i None fs)) | refused p ↦ refused p ]
  unfolding groups
  layout_on r e = sym R.rest ∙ rw (to_come A G) (rw (e, groups))

  -- a refusal is the list's
  upto_refused : (p : ℕ) (ds ms ns es : List ℕ) → Closed φ i fs is (group φ i 1 (opened (rep (i / t) hs)) fs) (Err p) ds ms ns es → layout fs ≡ refused p
  upto_refused p ds ms ns es = go (group φ i 1 (opened (rep (i / t) hs)) fs) refl
    where
      go : (r : Outcome (List Frame)) → group φ i 1 (opened (rep (i / t) hs)) fs ≡ r → Closed φ i fs is r (Err p) ds ms ns es → layout fs ≡ refused p
      go (refused q) e h = layout_on (refused q) e ∙ cc
      go (done L) e h = no_frame-not-lawful h.0

  -- a group that stands leads to the next
  upto_next : φ ≡ frame fs → (ds ms ns es : List ℕ) → Closed φ i fs is (group φ i 1 (opened (rep (i / t) hs)) fs) (Ok tt) (take (i / φ) ds) (take (i / φ) ms) ns es
      → (gs : List (List Settled)) × Upto φ (next_interval i None fs) i (i / φ) fs (is ++ (i ∷ [])) gs ds ms ns es
  upto_next f ds ms ns es = go (group φ i 1 (opened (rep (i / t) hs)) fs) refl
    where
      go : (r : Outcome (List Frame)) → group φ i 1 (opened (rep (i / t) hs)) fs ≡ r → Closed φ i fs is r (Ok tt) (take (i / φ) ds) (take (i / φ) ms) ns es
          → (gs : List (List Settled)) × Upto φ (next_interval i None fs) i (i / φ) fs (is ++ (i ∷ [])) gs ds ms ns es
      go (refused q) e h = no_frame-not-lawful (sym h)
      go (done L) e h = (
        settle φ 0 L,
        record {
          agrees = h.1;
          wide = settle-length φ 0 L ∙ h.2;
          grown = grown_next A G f;
          rest = sym (layout_on (done L) e);
        },
      )

  -- ---- the same of a window that is a part of the whole

  module _ (f : φ ≡ frame fs) (k : ℕ) (e : k ≡ i / φ) (c : length cs ≡ 256) (l : length ls ≡ 256) where
    part_fits : k ≤ 256
    part_fits = omega (arith, e, rw (sym f) at (frames_le fs A i (G.next i refl).1))

    pub ready_on : Ready φ i w fs (take k cs) (take k ls) ks bs
    ready_on = rw e (is, hs, upto_opens f (omega (arith, part_fits)) (omega (arith, part_fits)))

    closed_on : (r : Result Unit ℕ) (ds ms ns es : List ℕ) → Added φ i w fs (take k cs) (take k ls) ks bs r ds ms ns es
        → Closed φ i fs is (group φ i 1 (opened (rep (i / t) hs)) fs) r ds ms ns es
    unfolding upto_opens
    closed_on r ds ms ns es a = (rw e at a) is hs (upto_opens f (omega (arith, part_fits)) (omega (arith, part_fits)))

    pub refused_on : (p : ℕ) (r : Result Unit ℕ) (ds ms ns es cs' ls' : List ℕ) → Added φ i w fs (take k cs) (take k ls) ks bs r ds ms ns es → r ≡ Err p
        → Finished φ fs (layout fs) (Err p) cs' ls' ns es
    refused_on p r ds ms ns es cs' ls' a q = rw (upto_refused p ds ms ns es (rw q at (closed_on r ds ms ns es a))) refl

    pub next_on : (r : Result Unit ℕ) (ds ms ns es : List ℕ) → length ds ≡ length (take k cs) → length ms ≡ length (take k ls)
        → Added φ i w fs (take k cs) (take k ls) ks bs r ds ms ns es → r ≡ Ok tt
        → (gs : List (List Settled)) × Upto φ (next_interval i None fs) i k fs (is ++ (i ∷ [])) gs (ds ++ drop k cs) (ms ++ drop k ls) ns es
    next_on r ds ms ns es lc ll a q =
        let u = upto_next f (ds ++ drop k cs) (ms ++ drop k ls) ns es
        (rw (take_at ds (drop k cs) (i / φ) (lc ∙ length-take-le k cs (omega (arith, part_fits)) ∙ e), take_at ms (drop k ls) (i / φ) (ll ∙ length-take-le k ls (omega (arith, part_fits)) ∙ e))
        (rw q at (closed_on r ds ms ns es a))) in
        (u.0, subst (λ (x : ℕ). Upto φ (next_interval i None fs) i x fs (is ++ (i ∷ [])) u.0 (ds ++ drop k cs) (ms ++ drop k ls) ns es) (sym e) u.1)

-- ---- the end

module _ {φ t w : ℕ} {i : Option ℕ} {fs : List Flow} {is : List ℕ} {hs : List (List Settled)} {cs ls ks bs : List ℕ} (R : Upto φ i t w fs is hs cs ls ks bs) (z : i ≡ None) where
  pub upto_end : Finished φ fs (layout fs) (Ok tt) cs ls ks bs
  unfolding groups
  upto_end =
      let l : layout fs ≡ done hs = sym R.rest ∙ rw (z, from-none fs) in
      rw l (refl, rw (R.wide, sym (grown_all R.grown z)) R.agrees, rw R.wide (R.grown.slots ∙ R.grown.end z), rw R.wide R.grown.most)
