-- The layout that a group leaves: how wide it is, and what it grants. Assumes nothing.
use mathlib.Core.Path.{◌≡◌, sym, ap, ◌∙◌}
use mathlib.Core.List.{List}
use Prim.Native.Nat.{ℕ, ◌+◌, ◌*◌}
use native.Mathlib.Omega.{arith}
use lib.ListN.{length, length-map}
use Rattle.logic.specs.Lists.{sum}
use Rattle.flows.specs.declared.flow.Flow.{Flow}
use Rattle.law.proofs.Counting.{mark}
use Rattle.placing.specs.Rule.{Settled, Frame, olds, rep, opened, settle}
use Rattle.placing.proofs.Groups.{Grouped}
use Rattle.placing.proofs.Layouts.{opened-olds, opened-length, opened-newly, rep-length, rep-granted, granted, settle-length, settle-granted}

pub olds-length : (xs ys : List Frame) → olds ys ≡ olds xs → length ys ≡ length xs
unfolding olds
olds-length xs ys e = sym (length-map ys (λ (x : Frame). x.old)) ∙ ap length e ∙ length-map xs (λ (x : Frame). x.old)

-- xs is k copies of the layout hs, with the flows of interval i among fs
module _ (P : Flow → Type 0) (φ i k : ℕ) (fs : List Flow) (hs : List (List Settled)) (xs : List Frame) (left : Grouped P φ i fs (opened (rep k hs)) xs) where
  -- their earlier grants are those of the copies
  pub ended-olds : olds xs ≡ rep k hs
  ended-olds = left.same ∙ opened-olds (rep k hs)

  pub ended-wide : (s : ℕ) → length hs * φ ≡ s → k * s ≡ i → length (settle φ 0 xs) * φ ≡ i
  ended-wide s wide whole =
      let n : length (settle φ 0 xs) ≡ k * length hs =
      settle-length φ 0 xs ∙ olds-length (opened (rep k hs)) xs left.same ∙ opened-length (rep k hs) ∙ rep-length k hs in
      omega (arith, ap (λ (x : ℕ). x * φ) n, ap (λ (x : ℕ). k * x) wide, whole)

  pub ended-granted : (v : Flow → ℕ) → granted v (settle φ 0 xs) ≡ k * granted v hs + sum (λ f. mark f.interval i * v f) fs
  ended-granted v =
      settle-granted v φ 0 xs ∙ omega (arith, ap (granted v) ended-olds, rep-granted v k hs, left.added v, opened-newly v (rep k hs))
