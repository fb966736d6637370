-- Demand 3: a list that is tolerant and whose load fits in the cycle is planned. Assumes nothing.
use mathlib.Core.Path.{◌≡◌, refl, sym, ap, ◌∙◌}
use mathlib.Core.List.Memᴰ
use mathlib.Core.List.{List, [], ◌∷◌}
use Prim.Native.Nat.{ℕ, zero, suc, ◌+◌, ◌-◌, ◌*◌, ◌/◌, ◌≤◌, ◌<◌}
use native.Mathlib.Omega.{arith}
use native.Mathlib.Nat.{div-eq_of_eq-mul_left, le_of_mul-le-mul_left}
use lib.Dec.{eqb}
use lib.ListN.{length}
use borrow.Author.Tests.{eq-eqb}
use Rattle.logic.specs.Lists.{sum}
use Rattle.logic.proofs.Tests.{by_test}
use Rattle.logic.proofs.Members.{Mem, by_mem, all_mem, mem_all}
use Rattle.logic.proofs.Sums.{sum_same}
use Rattle.flows.specs.declared.flow.Flow.{Flow}
use Rattle.lists.specs.Facts.{occupies, cycle, frame, grants_of, load}
use Rattle.lists.specs.Accepted.{Accepted}
use Rattle.lists.proofs.Cycle.{occupies_pos, interval_pos, interval-divides, frame_in, frame-divides, divides-cycle}
use Rattle.tables.specs.declared.packed.Grant.{Grant}
use Rattle.law.proofs.Counting.{mark}
use Rattle.placing.specs.Rule.{done, Settled, Frame, weight, content, group, rep, opened, settle, groups, present, rising, intervals, layout, rows, planned}
use Rattle.placing.specs.Tolerance.{largest, above, need, Tolerant}
use Rattle.placing.proofs.Overhangs.{passing, Each, Spare}
use Rattle.placing.proofs.Placed.{Newly}
use Rattle.placing.proofs.Groups.{group_leaves}
use Rattle.placing.proofs.Layouts.{opened-olds, opened-length, opened-newly, opened-news, rep-length, rep-granted, rep-passing, rep_each, granted, settle-passing, settle_each}
use Rattle.placing.proofs.Ended.{ended-wide, ended-granted}
use Rattle.placing.proofs.Room.{Going, going, going_spare, each_less}
use Rattle.placing.proofs.Windows.{present_mem, rising-present, rising_absent, groups_done}
use Rattle.placing.proofs.Passes.{planned_done}
use Rattle.placing.proofs.Filled.{contents-split, filled}
use Rattle.placing.proofs.Coming.{coming, coming_yes, load-next}

-- a flow is no larger than the largest of its interval
occupies-largest : (fs : List Flow) (f : Flow) → Mem f fs → occupies f ≤ largest f.interval fs
unfolding largest
occupies-largest [] f m = absurd (Memᴰ.not-nil m)
occupies-largest (g ∷ fs) f m =
    by_mem m
    (λ e. rw (eq-eqb g.interval f.interval (ap (λ (x : Flow). x.interval) (sym e)), largest) (omega (arith, ap occupies e)))
    (λ k.
    let ih = occupies-largest fs f k in
    by_test (eqb g.interval f.interval) (λ e. rw (e, largest) (omega arith)) (λ e. rw (e, largest) ih))

-- a layout of s slots, before the groups of the n lengths above t: each grant bears what those groups push, and their load fits
record Bears (fs : List Flow) (t n s : ℕ) (hs : List (List Settled)) : Type 0 where
  wide : length hs * frame fs ≡ s
  divides : (g : Flow) → Mem g fs → t < g.interval → (g.interval / s) * s ≡ g.interval
  clear : passing (frame fs) 0 (opened hs) ≡ 0
  spare : Each (Spare (above fs t n)) (frame fs) 0 (opened hs)
  rounds : ℕ
  round : rounds * s ≡ cycle fs
  fits : granted occupies hs * rounds + sum (coming (cycle fs) t) fs ≤ cycle fs

-- the factors of a number that is not 0
factors : (a b c : ℕ) → a * b ≡ c → 0 < c → (0 < a) × (0 < b)
factors zero b c e h = absurd (omega arith)
factors (suc a) zero c e h = absurd (omega arith)
factors (suc a) (suc b) c e h = omega arith

module _ (fs : List Flow) (ok : Accepted fs) (tolerant : Tolerant fs) where
  -- the group of interval i
  module _ (t n i s : ℕ) (hs : List (List Settled)) (b : Bears fs t (suc n) s hs) (next : i ≡ suc t) (all : i + n ≡ cycle fs) (g : Flow) (own : Mem g fs) (here : g.interval ≡ i) where
    abbrev φ : ℕ
    φ = frame fs

    abbrev k : ℕ
    k = i / s

    abbrev d : ℕ
    d = largest i fs - 1

    abbrev e : ℕ
    e = above fs i n

    abbrev slots : ℕ
    slots = sum (λ f. mark f.interval i * occupies f) fs

    abbrev q : ℕ
    q = cycle fs / i

    -- the copies of the layout fill the window
    whole : k * s ≡ i
    whole = rw (← here) (b.divides g own (omega arith))

    -- the windows fill the cycle
    round : q * i ≡ cycle fs
    round = rw (← here) (divides-cycle fs ok g own)

    -- the layout comes so often in the cycle
    times : b.rounds ≡ q * k
    times =
        let pos : 0 < s = (factors k s i whole (omega arith)).1 in
        let c : cycle fs ≡ q * k * s = omega (arith, round, ap (λ (x : ℕ). q * x) whole) in
        sym (div-eq_of_eq-mul_left pos (sym b.round)) ∙ div-eq_of_eq-mul_left pos c

    -- the load of this window, and what is still to come, fit in the cycle
    fits : (k * granted occupies hs + slots) * q + sum (coming (cycle fs) i) fs ≤ cycle fs
    fits =
        let l : sum (coming (cycle fs) t) fs ≡ slots * q + sum (coming (cycle fs) i) fs = rw next (load-next (cycle fs) t fs) in
        omega (arith, b.fits, l, ap (λ (x : ℕ). granted occupies hs * x) times)

    -- so this window has room for its flows
    room : k * granted occupies hs + slots ≤ i
    room =
        let h : q * (k * granted occupies hs + slots) ≤ q * i = omega (arith, fits, round) in
        le_of_mul-le-mul_left h (factors q i (cycle fs) round (omega arith)).0

    abbrev copies : List (List Settled)
    copies = rep k hs

    -- the group is under way before its first flow
    under_way : Going φ d e 0 (opened copies)
    unfolding above
    under_way =
        let m : above fs t (suc n) ≡ d + e = rw next in
        going φ d e 0 0 (opened copies) (omega arith) (omega arith) (rep_each φ hs b.clear (Spare (d + e)) k (rw m at b.spare))

    -- a flow of the group pushes at most d
    fit : (f : Flow) → Mem f fs → f.interval ≡ i → (0 < occupies f) × (occupies f ≤ d + 1)
    fit f m x = (occupies_pos fs ok f m, omega (arith, occupies-largest fs f m, ap (λ (x : ℕ). largest x fs) x))

    -- and bears what later groups push
    bearing : (f : Flow) → Mem f fs → f.interval ≡ i → e ≤ f.jitter
    unfolding need
    bearing f m x =
        let rest : cycle fs - i ≡ n = omega arith in
        let same : need fs f.interval ≡ e = ap (need fs) x ∙ ap (above fs i) rest in
        omega (arith, all_mem (λ f. need fs f.interval ≤ f.jitter) fs tolerant f m)

    bound : sum content (opened copies) + slots ≤ length (opened copies) * φ
    bound =
        omega (
          arith,
          room,
          whole,
          contents-split (opened copies),
          ap (granted occupies) (opened-olds copies),
          opened-newly occupies copies,
          rep-granted occupies k hs,
          ap (λ (x : ℕ). x * φ) (opened-length copies ∙ rep-length k hs),
          ap (λ (x : ℕ). k * x) b.wide,
        )

    -- its flows have their places, and the layout that it leaves bears the groups that come
    next-layout : (xs : List Frame) × (group φ i 1 (opened copies) fs ≡ done xs) × Bears fs i n i (settle φ 0 xs)
    next-layout =
        let y = filled φ d e i 1 fs (opened copies) (mem_all (λ f. f.interval ≡ i → (0 < occupies f) × (occupies f ≤ d + 1)) fs fit) under_way (rep-passing φ hs b.clear k) bound in
        let xs = y.0 in
        let left = group_leaves (λ f. e ≤ f.jitter) φ i 1 fs (opened copies) xs y.1 in
        let news : Newly (λ f. e ≤ f.jitter) xs = left.news (mem_all (λ f. f.interval ≡ i → e ≤ f.jitter) fs bearing) (opened-news (λ f. e ≤ f.jitter) copies) in (
          xs,
          y.1,
          record {
            wide = ended-wide (λ f. e ≤ f.jitter) φ i k fs hs xs left s b.wide whole;
            divides = λ f m l. rw (← here) (interval-divides fs ok g f own m (omega arith));
            clear = settle-passing φ 0 xs ∙ y.3;
            spare = settle_each (λ o g. o + e ≤ g.base + g.flow.jitter) (λ f. e ≤ f.jitter) (λ o f l. omega arith) φ 0 xs news (going_spare φ d e 0 xs y.2);
            rounds = q;
            round = round;
            fits = rw (ended-granted (λ f. e ≤ f.jitter) φ i k fs hs xs left occupies) fits;
          },
        )

  -- the groups of the n lengths above t
  always_groups : (n t s : ℕ) (hs : List (List Settled)) → t + n ≡ cycle fs → Bears fs t n s hs
      → (r : List (List Settled)) × (groups (frame fs) fs s hs (rising fs t n) ≡ done r)
  unfolding rising groups above
  always_groups zero t s hs e b = (hs, refl)
  always_groups (suc n) t s hs e b =
      let all : suc t + n ≡ cycle fs = omega arith in
      by_test (present (suc t) fs)
      (λ p.
      let g = present_mem (suc t) fs p in
      let y = next-layout t n (suc t) s hs b refl all g.0 g.1 g.2 in
      let r = always_groups n (suc t) (suc t) (settle (frame fs) 0 y.0) all y.2 in
      (r.0, rw (rising-present fs t n p) (groups_done (frame fs) s (suc t) fs hs (rising fs (suc t) n) y.0 y.1 ∙ r.1)))
      (λ p.
      let r =
      always_groups n (suc t) s hs all (record {
        wide = b.wide;
        divides = λ g m l. b.divides g m (omega arith);
        clear = b.clear;
        spare = each_less (above fs t (suc n)) (above fs (suc t) n) (frame fs) 0 (opened hs) (omega arith) b.spare;
        rounds = b.rounds;
        round = b.round;
        fits = omega (arith, b.fits, load-next (cycle fs) t fs);
      }) in
      (r.0, rw (rising_absent fs t n p) r.1))

  -- a tolerant list whose load fits in the cycle is planned
  pub always_planned : load fs ≤ cycle fs → (gs : List Grant) × (planned fs ≡ done gs)
  unfolding layout intervals load granted sum opened passing content weight
  always_planned l =
      let g = frame_in fs ok in
      let whole : sum (coming (cycle fs) 0) fs ≡ load fs =
      sum_same (coming (cycle fs) 0) (λ f. occupies f * grants_of (cycle fs) f) fs
      (mem_all (λ f. coming (cycle fs) 0 f ≡ occupies f * grants_of (cycle fs) f) fs (λ f m. coming_yes (cycle fs) 0 f (interval_pos fs ok f m))) in
      let y =
      always_groups (cycle fs) 0 (frame fs) ([] ∷ []) (omega arith) (record {
        wide = omega arith;
        divides = λ g m l. frame-divides fs ok g m;
        clear = omega arith;
        spare = (tt, tt);
        rounds = cycle fs / frame fs;
        round = rw (← g.2) (divides-cycle fs ok g.0 g.1);
        fits = omega arith;
      }) in
      (rows (frame fs) 0 0 y.0, planned_done fs y.0 y.1)
