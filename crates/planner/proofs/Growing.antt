-- The windows of the groups, each of which fills the next. Assumes nothing.
use Rattle.std.proofs.Common.{◌≡◌, refl, sym, ap, ◌∙◌, true, List, [], ◌∷◌, ◌++◌, append_assoc, append-nil, ℕ, zero, suc, ◌*◌, ◌/◌, ◌≤◌, ◌<◌, arith, Option, Some, None}
use Prim.Native.Nat.{◌∣◌}
use native.Mathlib.Nat.{dvd_refl, dvd_trans, dvd-mul_left, div-mul_cancel, div-eq_of_eq-mul_left}
use Rattle.flows.specs.declared.flow.Flow.{Flow}
use Rattle.lists.specs.Facts.{cycle, frame}
use Rattle.lists.specs.Accepted.{Accepted}
use Rattle.lists.proofs.Cycle.{interval_pos}
use Rattle.logic.proofs.Tests.{by_lt}
use Rattle.placing.specs.Rule.{present, intervals}
use Rattle.placing.proofs.Windows.{present_mem}
use Rattle.planner.specs.Intervals.{next_interval, from}
use Rattle.planner.specs.State.{Before}
use Rattle.planner.proofs.Bounds.{timed, frame-present, interval_le, frames_le, divides}
use Rattle.planner.proofs.Rising.{from-none, from_next, intervals-from, next-present, next-none, present-le}

-- one copy is no longer than the whole
pub narrow : (r w n : ℕ) → n ≡ r * w → 0 < r → w ≤ n
narrow zero w n e h = absurd (omega arith)
narrow (suc r) w n e h = omega arith

-- the groups of the intervals is come before that of interval i, or are all, and the window of the last has w frames, which are t slots
pub record Grown (φ : ℕ) (i : Option ℕ) (t w : ℕ) (fs : List Flow) (is : List ℕ) : Type 0 where
  pub some : 0 < w
  pub slots : w * φ ≡ t
  pub low : t ≤ 4096
  pub most : w ≤ 256
  pub next : (j : ℕ) → i ≡ Some j → (t ∣ j) × (present j fs ≡ true) × Before φ j w is
  pub end : i ≡ None → t ≡ cycle fs
  pub order : is ++ from fs i ≡ intervals fs

-- the start: one frame
pub grown_start : (fs : List Flow) → Accepted fs → Grown (frame fs) (Some (frame fs)) (frame fs) 1 fs []
grown_start fs A =
    record {
      some = omega arith;
      slots = omega arith;
      low = interval_le fs A (frame fs) (frame-present fs A);
      most = omega arith;
      next = λ j e. let z : frame fs ≡ j = cc in rw (sym z) (dvd_refl (frame fs), frame-present fs A, tt);
      end = λ e. absurd cc;
      order = sym (intervals-from fs A.filled (timed fs A));
    }

-- ---- the numbers of a window

module _ {φ i t w : ℕ} {fs : List Flow} {is : List ℕ} (A : Accepted fs) (G : Grown φ (Some i) t w fs is) where
  abbrev next : (t ∣ i) × (present i fs ≡ true) × Before φ i w is
  next = G.next i refl

  positive : 0 < i
  positive = let y = present_mem i fs next.1 in rw y.2 at (interval_pos fs A y.0 y.1)

  whole : i ≡ i / t * w * φ
  whole = sym (div-mul_cancel t next.0) ∙ rw (sym G.slots) (omega arith)

  frame_positive : 0 < φ
  frame_positive = by_lt 0 φ (λ h. h) (λ h. let z : φ ≡ 0 = omega arith in let e : i ≡ 0 = whole ∙ rw z (omega arith) in absurd (omega (arith, positive)))

  pub times_positive : 0 < i / t
  times_positive = by_lt 0 (i / t) (λ h. h) (λ h. let z : i / t ≡ 0 = omega arith in let e : i ≡ 0 = whole ∙ rw z (omega arith) in absurd (omega (arith, positive)))

  pub window_frames : i / φ ≡ i / t * w
  window_frames = div-eq_of_eq-mul_left frame_positive whole

  pub window-slots : i / φ * φ ≡ i
  window-slots = rw window_frames (sym whole)

  pub window-fits : w ≤ i / φ
  window-fits = narrow (i / t) w (i / φ) window_frames times_positive

  -- the intervals still to come
  pub to_come : from fs (Some i) ≡ i ∷ from fs (next_interval i None fs)
  to_come = from_next fs i next.1

  before_on : (j v : ℕ) (ns : List ℕ) → i < j → w ∣ v → i / φ ∣ v → Before φ i w ns → Before φ j v (ns ++ (i ∷ []))
  before_on j v [] l d e b = (l, e, tt)
  before_on j v (x ∷ ns) l d e b = (omega arith, dvd_trans (x / φ) b.1 d, before_on j v ns l d e b.2)

  -- the next group's window
  pub grown_next : φ ≡ frame fs → Grown φ (next_interval i None fs) i (i / φ) fs (is ++ (i ∷ []))
  grown_next f =
      record {
        some = omega (arith, window-fits, G.some);
        slots = window-slots;
        low = interval_le fs A i next.1;
        most = rw (sym f) at (frames_le fs A i next.1);
        next = λ j e.
            let p = next-present i fs j e in (
              divides fs A i next.1 j p.1 (omega (arith, p.0)),
              p.1,
              before_on j (i / φ) is p.0 (rw window_frames (dvd-mul_left w (i / t))) (dvd_refl (i / φ)) next.2,
            );
        end = λ z. omega (arith, next-none i None fs z, present-le i fs next.1);
        order = append_assoc is (i ∷ []) (from fs (next_interval i None fs)) ∙ ap (λ (l : List ℕ). is ++ l) (sym to_come) ∙ G.order;
      }

-- the end: all groups
pub grown_all : {φ t w : ℕ} {i : Option ℕ} {fs : List Flow} {is : List ℕ} → Grown φ i t w fs is → i ≡ None → is ≡ intervals fs
grown_all {fs = fs} {is = is} G z = sym (append-nil is) ∙ rw (sym (from-none fs), sym z) G.order
