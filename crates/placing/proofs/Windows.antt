-- The groups of a list, one interval after the other. Assumes nothing.
use mathlib.Core.Path.{◌≡◌, refl, sym, ap, ◌∙◌, subst}
use mathlib.Core.Bool.{true, false}
use mathlib.Core.List.Memᴰ
use mathlib.Core.List.{List, [], ◌∷◌}
use Prim.Native.Nat.{ℕ, zero, suc, ◌+◌, ◌/◌, ◌≤◌}
use native.Mathlib.Omega.{arith}
use lib.Dec.{eqb}
use lib.ListN.{length}
use borrow.Author.Tests.{eqb-true, eq-eqb}
use Rattle.logic.proofs.Tests.{by_test, true-not-false}
use Rattle.logic.proofs.Members.{Mem, by_mem}
use Rattle.flows.specs.declared.flow.Flow.{Flow}
use Rattle.lists.specs.Facts.{cycle, frame}
use Rattle.placing.specs.Rule.{Outcome, done, refused, Settled, Frame, group, rep, opened, settle, groups, present, rising, intervals, layout}
use Rattle.placing.proofs.Groups.{group-refused}

-- ---- the intervals of a list

pub present_mem : (i : ℕ) (fs : List Flow) → present i fs ≡ true → (g : Flow) × Mem g fs × (g.interval ≡ i)
unfolding present
present_mem i [] e = true-not-false (sym e)
present_mem i (f ∷ fs) e =
    by_test (eqb f.interval i)
    (λ q. (f, Memᴰ.head refl, eqb-true f.interval i q))
    (λ q. let y = present_mem i fs (rw (q, present) at e) in (y.0, Memᴰ.tail y.1, y.2))

pub mem_present : (i : ℕ) (fs : List Flow) → present i fs ≡ false → (g : Flow) → Mem g fs → g.interval ≡ i → ⊥
unfolding present
mem_present i [] e g m n = absurd (Memᴰ.not-nil m)
mem_present i (f ∷ fs) e g m n =
    by_test (eqb f.interval i)
    (λ q. true-not-false (rw (q, present) at e))
    (λ q.
    by_mem m
    (λ a. true-not-false (sym (eq-eqb f.interval i (ap (λ (x : Flow). x.interval) (sym a) ∙ n)) ∙ q))
    (λ a. mem_present i fs (rw (q, present) at e) g a n))

pub rising-present : (fs : List Flow) (t n : ℕ) → present (suc t) fs ≡ true → rising fs t (suc n) ≡ suc t ∷ rising fs (suc t) n
unfolding rising
rising-present fs t n e = rw (e, rising)

pub rising_absent : (fs : List Flow) (t n : ℕ) → present (suc t) fs ≡ false → rising fs t (suc n) ≡ rising fs (suc t) n
unfolding rising
rising_absent fs t n e = rw (e, rising)

-- ---- group after group

pub by_outcome {ℓ} : {A : Type 0} {P : Type ℓ} (w : Outcome A) → ((x : A) → w ≡ done x → P) → ((p : ℕ) → w ≡ refused p → P) → P
by_outcome (done x) f g = f x refl
by_outcome (refused p) f g = g p refl

pub done_not-refused {ℓ} : {A : Type 0} {P : Type ℓ} {x : A} {p : ℕ} → ◌≡◌ {A = Outcome A} (refused p) (done x) → P
done_not-refused e = let z : ◌≡◌ {A = ℕ} 0 1 = cc in absurd (omega arith)

pub groups_done : (φ t i : ℕ) (fs : List Flow) (hs : List (List Settled)) (is : List ℕ) (xs : List Frame) → group φ i 1 (opened (rep (i / t) hs)) fs ≡ done xs
    → groups φ fs t hs (i ∷ is) ≡ groups φ fs i (settle φ 0 xs) is
unfolding groups
groups_done φ t i fs hs is xs e = rw (e, groups)

groups-refused : (φ t i p : ℕ) (fs : List Flow) (hs : List (List Settled)) (is : List ℕ) → group φ i 1 (opened (rep (i / t) hs)) fs ≡ refused p
    → groups φ fs t hs (i ∷ is) ≡ refused p
unfolding groups
groups-refused φ t i p fs hs is e = rw (e, groups)

-- what holds of the layout before the first group, and is kept by each length up to the cycle, holds of the last layout;
-- S t s hs: the groups up to t are placed, and the layout hs fills a window of s slots
module _ (fs : List Flow) (S : ℕ → ℕ → List (List Settled) → Type 0)
    (absent : (t s : ℕ) (hs : List (List Settled)) → ((g : Flow) → Mem g fs → g.interval ≡ suc t → ⊥) → S t s hs → S (suc t) s hs)
    (placed : (t s : ℕ) (hs : List (List Settled)) (xs : List Frame) (g : Flow) → Mem g fs → g.interval ≡ suc t
    → group (frame fs) (suc t) 1 (opened (rep (suc t / s) hs)) fs ≡ done xs → S t s hs → S (suc t) (suc t) (settle (frame fs) 0 xs)) where
  groups-keep : (n t s : ℕ) (hs r : List (List Settled)) → groups (frame fs) fs s hs (rising fs t n) ≡ done r → S t s hs → (w : ℕ) × S (t + n) w r
  unfolding rising groups
  groups-keep zero t s hs r e a =
      let q : hs ≡ r = cc in
      let k : t + 0 ≡ t = omega arith in
      (s, rw k (subst (S t s) q a))
  groups-keep (suc n) t s hs r e a =
      let k : t + suc n ≡ suc t + n = omega arith in
      by_test (present (suc t) fs)
      (λ p.
      let g = present_mem (suc t) fs p in
      let h = rw (rising-present fs t n p) at e in
      by_outcome (group (frame fs) (suc t) 1 (opened (rep (suc t / s) hs)) fs)
      (λ xs w.
      rw k (groups-keep n (suc t) (suc t) (settle (frame fs) 0 xs) r
      (sym (groups_done (frame fs) s (suc t) fs hs (rising fs (suc t) n) xs w) ∙ h) (placed t s hs xs g.0 g.1 g.2 w a)))
      (λ q w. done_not-refused (sym (groups-refused (frame fs) s (suc t) q fs hs (rising fs (suc t) n) w) ∙ h)))
      (λ p. rw k (groups-keep n (suc t) s hs r (rw (rising_absent fs t n p) at e) (absent t s hs (mem_present (suc t) fs p) a)))

  pub layout-keep : (r : List (List Settled)) → layout fs ≡ done r → S 0 (frame fs) ([] ∷ []) → (w : ℕ) × S (cycle fs) w r
  unfolding layout intervals
  layout-keep r e a =
      let y = groups-keep (cycle fs) 0 (frame fs) ([] ∷ []) r e a in
      let k : 0 + cycle fs ≡ cycle fs = omega arith in
      (y.0, rw k at y.1)

-- a refused list names one of its flows
pub groups-place : (φ t p : ℕ) (fs : List Flow) (hs : List (List Settled)) (is : List ℕ) → groups φ fs t hs is ≡ refused p → (1 ≤ p) × (p ≤ length fs)
unfolding groups
groups-place φ t p fs hs [] e = let z : ◌≡◌ {A = ℕ} 0 1 = cc in absurd (omega arith)
groups-place φ t p fs hs (i ∷ is) e =
    by_outcome (group φ i 1 (opened (rep (i / t) hs)) fs)
    (λ xs w. groups-place φ i p fs (settle φ 0 xs) is (sym (groups_done φ t i fs hs is xs w) ∙ e))
    (λ q w.
    let r : ◌≡◌ {A = Outcome (List (List Settled))} (refused q) (refused p) = sym (groups-refused φ t i q fs hs is w) ∙ e in
    let s : q ≡ p = cc in
    omega (arith, group-refused φ i 1 q fs (opened (rep (i / t) hs)) w))
