-- A group from its window window to its end. Assumes nothing.
use Rattle.std.proofs.Common.{Result, Ok, Err, ◌≡◌, refl, sym, ap, ap₂, ◌∙◌, List, [], ℕ, ◌*◌, ◌/◌, ◌≤◌, ◌<◌, arith, length, take, length-take-le}
use Rattle.flows.specs.declared.flow.Flow.{Flow}
use Rattle.placing.specs.Rule.{Outcome, done, refused, Settled, Frame, contents, olds, group, rep, opened}
use Rattle.planner.specs.Cells.{over}
use Rattle.planner.specs.Cells.{Laid, laid_of, group_cells, Ended, ended_of, end_cells}
use Rattle.planner.specs.State.{Opened, Closed, Added}
use Rattle.planner.proofs.Copies.{length-rep}
use Rattle.planner.proofs.Growing.{narrow}
use Rattle.planner.proofs.Limits.{lawful-over}
use Rattle.planner.proofs.Grouping.{no_frame-not-lawful, Placed-as, group_is, Inside, cells_inside, length-contents, length-olds}
use Rattle.planner.proofs.Settling.{ended_is}
use Rattle.planner.proofs.Layouts.{opened_is, standing-rep}
use Rattle.placing.proofs.Layouts.{opened-olds, opened-length}

module _ {φ i w : ℕ} {fs : List Flow} {is : List ℕ} {hs : List (List Settled)} {cs ls ks bs : List ℕ} (O : Opened φ i w fs is hs cs ls ks bs)
    (many : length fs ≤ length ks) (many' : length fs ≤ length bs) where
  -- the window repeated, the group placed in it, its end
  abbrev pub window : List Frame
  window = opened (rep O.times hs)

  abbrev pub placed : Laid
  placed = group_cells φ i 0 (rep O.times (take w cs)) (rep O.times (take w ls)) ks fs

  abbrev pub ended : Ended
  ended = end_cells φ i 0 placed.contents (rep O.times (take w ls)) placed.frames bs fs

  length-copies : length (rep O.times hs) ≡ length cs
  length-copies = length-rep hs O.times ∙ ap (λ (x : ℕ). O.times * x) O.wide ∙ sym O.whole

  length-window : length window ≡ length cs
  length-window = opened-length (rep O.times hs) ∙ length-copies

  placed_as : Placed-as φ i fs window (rep O.times (take w ls)) ks (group φ i 1 window fs) placed
  placed_as =
      group_is φ i 4096 [] fs window (rep O.times (take w cs)) (rep O.times (take w ls)) ks (omega arith) O.small
      (omega (arith, ap (λ (x : ℕ). x * φ) length-window, O.slots, O.low))
      (opened_is φ i O.times fs is hs (take w cs) (take w ls) ks bs O.agrees)

  -- a group that is refused
  closed_refused : (p : ℕ) (ds ms ns es : List ℕ) → placed.placed ≡ Err p → Closed φ i fs is (group φ i 1 window fs) (Err p) ds ms ns es
  closed_refused p ds ms ns es e = go (group φ i 1 window fs) placed_as
    where
      go : (r : Outcome (List Frame)) → Placed-as φ i fs window (rep O.times (take w ls)) ks r placed → Closed φ i fs is r (Err p) ds ms ns es
      go (refused q) h = sym e ∙ h
      go (done M) h = no_frame-not-lawful (sym e ∙ h.0)

  -- a group that stands
  length-filled : (M : List Frame) → olds M ≡ olds window → length M ≡ length cs
  length-filled M o = sym (length-olds M) ∙ ap length o ∙ length-olds window ∙ length-window

  module _ (all : placed.placed ≡ Ok tt) where
    closed_all : Closed φ i fs is (group φ i 1 window fs) (Ok tt) placed.contents ended.limits placed.frames ended.bases
    closed_all = go (group φ i 1 window fs) placed_as
      where
        go : (r : Outcome (List Frame)) → Placed-as φ i fs window (rep O.times (take w ls)) ks r placed
            → Closed φ i fs is r (Ok tt) placed.contents ended.limits placed.frames ended.bases
        go (refused q) h = no_frame-not-lawful (sym h ∙ all)
        go (done M) h =
            let F = h.1 in
            let wide : length M ≡ i / φ = length-filled M F.old ∙ O.frames in (
              refl,
              ended_is φ i w fs is (rep O.times hs) M placed.contents (rep O.times (take w ls)) ks placed.frames bs O.before wide many'
                  (standing-rep φ i O.times fs is hs (take w cs) (take w ls) ks bs (omega (arith, O.wide, O.some)) (rw (sym O.wide) at O.before) O.agrees)
                  F.filling (F.old ∙ opened-olds (rep O.times hs)) F.apart,
              wide,
            )

    -- its overhangs fit a cell
    low_over : (k : ℕ) → k < length placed.contents → over φ 0 (take k placed.contents) < 65536
    low_over k h = go (group φ i 1 window fs) placed_as
      where
        go : (r : Outcome (List Frame)) → Placed-as φ i fs window (rep O.times (take w ls)) ks r placed → over φ 0 (take k placed.contents) < 65536
        go (refused q) h = no_frame-not-lawful (sym h ∙ all)
        go (done M) h' =
            let F = h'.1.filling in
            let l : length placed.contents ≡ length cs = ap length F.content ∙ length-contents M ∙ length-filled M h'.1.old in
            let b = lawful-over φ 0 k (contents M) (olds M) F.law (omega (arith, ap length F.content)) in
            let s : length (contents M) * φ ≡ i = ap (λ (x : ℕ). x * φ) (sym (ap length F.content) ∙ l) ∙ O.slots in
            rw F.content (omega (arith, O.low))

    -- and its frames are the window's
    pub inside : Inside i (length cs) 0 fs placed.frames
    inside =
        let l : length (rep O.times (take w cs)) ≡ length cs =
        length-rep (take w cs) O.times ∙ ap (λ (x : ℕ). O.times * x) (length-take-le w cs fits) ∙ sym O.whole in
        rw l at (cells_inside φ i 0 (rep O.times (take w cs)) (rep O.times (take w ls)) ks fs (omega arith) all)
      where
        fits : w ≤ length cs
        fits = narrow O.times w (length cs) O.whole O.positive

-- what the code leaves, step by step: the layout's cells repeated, then the group placed with the answer q
pub record Leaves (φ i w : ℕ) (fs : List Flow) (cs ls ks bs cs₁ ls₁ cs₂ ks₂ : List ℕ) (q : Result Unit ℕ) : Type 0 where
  pub many : length fs ≤ length ks
  pub many' : length fs ≤ length bs
  pub copied : (r : ℕ) → length cs ≡ r * w → cs₁ ≡ rep r (take w cs)
  pub copied' : (r : ℕ) → length ls ≡ r * w → ls₁ ≡ rep r (take w ls)
  pub laid : laid_of q cs₂ ks₂ ≡ group_cells φ i 0 cs₁ ls₁ ks fs

module _ {φ i w : ℕ} {fs : List Flow} {cs ls ks bs cs₁ ls₁ cs₂ ks₂ : List ℕ} {q : Result Unit ℕ} (S : Leaves φ i w fs cs ls ks bs cs₁ ls₁ cs₂ ks₂ q) where
  module _ (is : List ℕ) (hs : List (List Settled)) (O : Opened φ i w fs is hs cs ls ks bs) where
    copy : cs₁ ≡ rep O.times (take w cs)
    copy = S.copied O.times O.whole

    copy' : ls₁ ≡ rep O.times (take w ls)
    copy' = S.copied' O.times (O.same ∙ O.whole)

    laid_is : laid_of q cs₂ ks₂ ≡ placed O S.many S.many'
    laid_is = S.laid ∙ ap₂ (λ (x y : List ℕ). group_cells φ i 0 x y ks fs) copy copy'

    stood : q ≡ Ok tt → (placed O S.many S.many').placed ≡ Ok tt
    stood e = sym (ap (λ (l : Laid). l.placed) laid_is) ∙ e

    pub left_inside : q ≡ Ok tt → Inside i (length cs) 0 fs ks₂
    left_inside e = rw (ap (λ (l : Laid). l.frames) laid_is) (inside O S.many S.many' (stood e))

    pub left_low : q ≡ Ok tt → (k : ℕ) → k < length cs₂ → over φ 0 (take k cs₂) < 65536
    left_low e = rw (ap (λ (l : Laid). l.contents) laid_is) (low_over O S.many S.many' (stood e))

  pub added-refused : (p : ℕ) (ms ns es : List ℕ) → q ≡ Err p → Added φ i w fs cs ls ks bs (Err p) cs₂ ms ns es
  added-refused p ms ns es e is hs O =
      closed_refused O S.many S.many' p cs₂ ms ns es (sym (ap (λ (l : Laid). l.placed) (laid_is is hs O)) ∙ e)

  pub added-all : (ms es : List ℕ) → q ≡ Ok tt → ended_of ms es ≡ end_cells φ i 0 cs₂ ls₁ ks₂ bs fs → Added φ i w fs cs ls ks bs (Ok tt) cs₂ ms ks₂ es
  added-all ms es e f is hs O =
      let P = placed O S.many S.many' in
      let c : cs₂ ≡ P.contents = ap (λ (l : Laid). l.contents) (laid_is is hs O) in
      let k : ks₂ ≡ P.frames = ap (λ (l : Laid). l.frames) (laid_is is hs O) in
      let d : ended_of ms es ≡ ended O S.many S.many' =
      f ∙ ap (λ (x : List ℕ). end_cells φ i 0 x ls₁ ks₂ bs fs) c ∙ ap₂ (λ (x y : List ℕ). end_cells φ i 0 P.contents x y bs fs) (copy' is hs O) k in
      let m : ms ≡ (ended O S.many S.many').limits = ap (λ (l : Ended). l.limits) d in
      let b : es ≡ (ended O S.many S.many').bases = ap (λ (l : Ended). l.bases) d in
      rw (c, m, k, b) (closed_all O S.many S.many' (stood is hs O e))
