-- The cycle and the frame are intervals of the list; the frame divides each interval, and each divides the cycle. Assumes nothing.
use mathlib.Core.Path.{◌≡◌, refl, sym, ap, ◌∙◌}
use mathlib.Core.Bool.{true}
use mathlib.Core.Logic.{◌⊎◌, inl, inr, ⊎_elim}
use mathlib.Core.List.Memᴰ
use mathlib.Core.List.{List, [], ◌∷◌}
use Prim.Native.Nat.{ℕ, zero, suc, ◌*◌, ◌/◌, ◌%◌, ◌≤◌, ◌<◌, max, min}
use native.Mathlib.Omega.{arith}
use native.Mathlib.Nat.{div_self, div-add-mod'}
use lib.ListN.{length}
use borrow.Author.Tests.{eqb-true}
use Rattle.logic.specs.Lists.{sum}
use Rattle.logic.proofs.Tests.{by_lt}
use Rattle.logic.proofs.Members.{Mem, by_mem, all_mem}
use Rattle.flows.specs.declared.flow.Flow.{Flow}
use Rattle.flows.specs.Flows.{keeps}
use Rattle.flows.proofs.Flows.{Keeps, keeps_is}
use Rattle.lists.specs.Facts.{occupies, related, cycle, least, frame, grants_of, grants}
use Rattle.lists.specs.Accepted.{Related, Accepted}

-- ---- related intervals

-- of two related intervals the smaller divides the larger
divides : (a b : ℕ) → related a b ≡ true → a ≤ b → (b / a) * a ≡ b
unfolding related
divides a b r h =
    let low : min a b ≡ a = omega arith in
    let high : max a b ≡ b = omega arith in
    omega (arith, rw (low, high) at (eqb-true (max a b % min a b) 0 r), div-add-mod' b a)

pub related_swap : (a b : ℕ) → related a b ≡ related b a
unfolding related
related_swap a b =
    let low : min a b ≡ min b a = omega arith in
    let high : max a b ≡ max b a = omega arith in
    rw (low, high)

divides_self : (a : ℕ) → 0 < a → (a / a) * a ≡ a
divides_self a h = rw (div_self h) (omega arith)

-- so of any two flows' intervals
related_mem : (fs : List Flow) → Related fs → (f g : Flow) → 0 < f.interval → Mem f fs → Mem g fs → f.interval ≤ g.interval
    → (g.interval / f.interval) * f.interval ≡ g.interval
related_mem [] r f g p m n l = absurd (Memᴰ.not-nil m)
related_mem (h ∷ fs) r f g p m n l =
    by_mem m
    (λ a.
    by_mem n
    (λ b. rw (a, b) (divides_self h.interval (rw a at p)))
    (λ b. divides f.interval g.interval (rw a (all_mem (λ x. related h.interval x.interval ≡ true) fs r.0 g b)) l))
    (λ a.
    by_mem n
    (λ b.
    divides f.interval g.interval (related_swap f.interval g.interval ∙ rw b (all_mem (λ x. related h.interval x.interval ≡ true) fs r.0 f a)) l)
    (λ b. related_mem fs r.1 f g p a b l))

-- ---- the largest and the smallest interval

pub cycle_le : (fs : List Flow) (f : Flow) → Mem f fs → f.interval ≤ cycle fs
unfolding cycle
cycle_le [] f m = absurd (Memᴰ.not-nil m)
cycle_le (g ∷ fs) f m =
    by_mem m (λ e. omega (arith, ap (λ (x : Flow). x.interval) e)) (λ k. omega (arith, cycle_le fs f k))

-- the smallest of i and the intervals is at most i
pub least_upto : (i : ℕ) (fs : List Flow) → least i fs ≤ i
unfolding least
least_upto i [] = omega arith
least_upto i (f ∷ fs) = omega (arith, least_upto i fs)

cycle_mem : (f : Flow) (fs : List Flow) → (g : Flow) × Mem g (f ∷ fs) × (g.interval ≡ cycle (f ∷ fs))
unfolding cycle
cycle_mem f [] = (f, Memᴰ.head refl, omega arith)
cycle_mem f (h ∷ fs) =
    let y = cycle_mem h fs in
    by_lt f.interval (cycle (h ∷ fs)) (λ t. (y.0, Memᴰ.tail y.1, omega (arith, y.2))) (λ t. (f, Memᴰ.head refl, omega arith))

least-le : (i : ℕ) (fs : List Flow) (f : Flow) → Mem f fs → least i fs ≤ f.interval
unfolding least
least-le i [] f m = absurd (Memᴰ.not-nil m)
least-le i (g ∷ fs) f m = by_mem m (λ e. omega (arith, ap (λ (x : Flow). x.interval) e)) (λ k. omega (arith, least-le i fs f k))

least_mem : (i : ℕ) (fs : List Flow) → (least i fs ≡ i) ⊎ ((g : Flow) × Mem g fs × (g.interval ≡ least i fs))
unfolding least
least_mem i [] = inl refl
least_mem i (f ∷ fs) =
    by_lt f.interval (least i fs)
    (λ t. inr (f, Memᴰ.head refl, omega arith))
    (λ t. ⊎_elim (λ e. inl (omega arith)) (λ y. inr (y.0, Memᴰ.tail y.1, omega (arith, y.2))) (least_mem i fs))

-- ---- the laws of an accepted list

module _ (fs : List Flow) (ok : Accepted fs) where
  pub kept : (f : Flow) → Mem f fs → Keeps f
  kept f m = keeps_is f (all_mem (λ f. keeps f ≡ true) fs ok.ruled f m)

  -- each grant takes a slot
  pub occupies_pos : (f : Flow) → Mem f fs → 0 < occupies f
  unfolding occupies
  occupies_pos f m = (kept f m).sized

  pub interval_pos : (f : Flow) → Mem f fs → 0 < f.interval
  interval_pos f m = (kept f m).timed

  -- of any two intervals the smaller divides the larger
  pub interval-divides : (f g : Flow) → Mem f fs → Mem g fs → f.interval ≤ g.interval → (g.interval / f.interval) * f.interval ≡ g.interval
  interval-divides f g m n = related_mem fs ok.related f g (interval_pos f m) m n

  -- the cycle is the interval of a flow
  pub cycle_in : (g : Flow) × Mem g fs × (g.interval ≡ cycle fs)
  cycle_in = go fs ok.filled
    where
      go : (fs : List Flow) → 0 < length fs → (g : Flow) × Mem g fs × (g.interval ≡ cycle fs)
      go [] h = absurd (omega arith)
      go (f ∷ fs) h = cycle_mem f fs

  -- the frame is the interval of a flow
  pub frame_in : (g : Flow) × Mem g fs × (g.interval ≡ frame fs)
  unfolding frame
  frame_in = ⊎_elim (λ e. let y = cycle_in in (y.0, y.1, y.2 ∙ sym e)) (λ y. y) (least_mem (cycle fs) fs)

  pub frame_pos : 0 < frame fs
  frame_pos = let y = frame_in in rw (← y.2) (interval_pos y.0 y.1)

  -- every interval divides the cycle
  pub divides-cycle : (f : Flow) → Mem f fs → (cycle fs / f.interval) * f.interval ≡ cycle fs
  divides-cycle f m = let y = cycle_in in rw (← y.2) (interval-divides f y.0 m y.1 (rw y.2 (cycle_le fs f m)))

  -- the frame divides every interval
  pub frame-divides : (f : Flow) → Mem f fs → (f.interval / frame fs) * frame fs ≡ f.interval
  unfolding frame
  frame-divides f m =
      let y = frame_in in
      rw (← y.2) (interval-divides y.0 f y.1 m (rw y.2 (least-le (cycle fs) fs f m)))

  -- the cycle has its place in a table's head
  pub cycle-fits : cycle fs ≤ 4096
  cycle-fits = let y = cycle_in in omega (arith, y.2, (kept y.0 y.1).interval_le)

  -- every flow has a grant in a cycle
  pub granted : (f : Flow) → Mem f fs → 0 < cycle fs / f.interval
  granted f m = go (cycle fs / f.interval) (divides-cycle f m)
    where
      go : (n : ℕ) → n * f.interval ≡ cycle fs → 0 < n
      go zero e = absurd (omega (arith, interval_pos f m, cycle_le fs f m))
      go (suc n) e = omega arith

-- so an accepted list has grants
pub grants_pos : (fs : List Flow) → Accepted fs → 1 ≤ grants fs
unfolding grants grants_of sum
grants_pos [] ok = absurd (omega (arith, ok.filled))
grants_pos (f ∷ fs) ok = omega (arith, granted (f ∷ fs) ok f (Memᴰ.head refl))
