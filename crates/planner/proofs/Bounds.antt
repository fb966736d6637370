-- What an accepted list tells of its intervals and sizes. Assumes nothing.
use mathlib.Core.Path.{◌≡◌, sym}
use mathlib.Core.Bool.{true}
use mathlib.Core.List.{List}
use Prim.Native.Nat.{ℕ, ◌/◌, ◌∣◌, ◌≤◌, ◌<◌}
use native.Mathlib.Nat.{dvd-mul_left, div-lt_iff_lt-mul}
use native.Mathlib.Omega.{arith}
use Rattle.logic.specs.Lists.{All}
use Rattle.logic.proofs.Tests.{by_test}
use Rattle.logic.proofs.Members.{mem_all}
use Rattle.flows.specs.declared.flow.Flow.{Flow}
use Rattle.lists.specs.Facts.{occupies, cycle, frame}
use Rattle.lists.specs.Accepted.{Accepted}
use Rattle.lists.proofs.Cycle.{kept, interval_pos, interval-divides, frame_in, frame_pos}
use Rattle.placing.specs.Rule.{present}
use Rattle.placing.proofs.Windows.{present_mem, mem_present}
use Rattle.planner.specs.Cells.{Small}
use Rattle.planner.proofs.Rising.{present-le}

module _ (fs : List Flow) (ok : Accepted fs) where
  pub timed : All (λ f. 0 < f.interval) fs
  timed = mem_all (λ f. 0 < f.interval) fs (interval_pos fs ok)

  pub small : Small 4096 fs
  unfolding occupies
  small = mem_all (λ f. occupies f ≤ 4096) fs (λ f m. omega (arith, (kept fs ok f m).size_le))

  -- the frame is an interval
  pub frame-present : present (frame fs) fs ≡ true
  frame-present = let y = frame_in fs ok in by_test (present (frame fs) fs) (λ e. e) (λ e. absurd (mem_present (frame fs) fs e y.0 y.1 y.2))

  module _ (i : ℕ) (p : present i fs ≡ true) where
    pub interval_le : i ≤ 4096
    interval_le = let y = present_mem i fs p in omega (arith, y.2, (kept fs ok y.0 y.1).interval_le)

    pub frames_le : i / frame fs ≤ 256
    frames_le =
        let z = frame_pos fs ok in
        let c = (div-lt_iff_lt-mul {x = cycle fs} {y = 257} z).0 (omega (arith, ok.frames_le)) in
        omega (arith, (div-lt_iff_lt-mul {x = i} {y = 257} z).1 (omega (arith, present-le i fs p)))

    pub divides : (n : ℕ) → present n fs ≡ true → i ≤ n → i ∣ n
    divides n q h =
        let y = present_mem i fs p in
        let z = present_mem n fs q in
        let e = rw (y.2, z.2) at (interval-divides fs ok y.0 z.0 y.1 z.1 (omega (arith, y.2, z.2))) in
        rw (sym e) (dvd-mul_left i (n / i))
