-- What one turn of each loop over a list's flows does. Assumes nothing.
use mathlib.Core.Path.{◌≡◌, refl, sym, ap, ◌∙◌}
use mathlib.Core.List.{List, []}
use Prim.Native.Nat.{ℕ, ◌+◌, ◌*◌, ◌≤◌, ◌<◌, max, min}
use native.Mathlib.Nat.{mul-le-mul_left}
use native.Mathlib.Numerals.{add-one}
use native.Mathlib.Omega.{arith}
use lib.ListN.{length, get_or, drop, drop_of_length-le}
use lib.Seq.{drop-cons}
use Rattle.logic.specs.Lists.{sum}
use Rattle.flows.specs.declared.flow.Flow.{Flow}
use Rattle.flows.specs.Flows.{no_flow}
use Rattle.lists.specs.Facts.{cycle, least, frame}
use Rattle.lists.proofs.Cycle.{least_upto}

-- ---- cycle and frame: the largest is m so far and the smallest k

abbrev pub SpanAt : List Flow → ℕ → ℕ → ℕ → Type 0
SpanAt fs i m k = (max m (cycle (drop i fs)) ≡ cycle fs) × (min k (least (cycle fs) (drop i fs)) ≡ min 65535 (frame fs))

pub span-start : (fs : List Flow) → SpanAt fs 0 0 65535
unfolding frame
span-start fs = (omega arith, refl)

pub span-next : (fs : List Flow) (i m k : ℕ) (f : Flow) → i < length fs → f ≡ get_or fs i no_flow → SpanAt fs i m k → SpanAt fs (i + 1) (max m f.interval) (min k f.interval)
unfolding cycle least
span-next fs i m k f h e s =
    let c : cycle (drop i fs) ≡ max f.interval (cycle (drop (i + 1) fs)) = rw (add-one, drop-cons fs i no_flow, cycle, e) in
    let l : least (cycle fs) (drop i fs) ≡ min f.interval (least (cycle fs) (drop (i + 1) fs)) = rw (add-one, drop-cons fs i no_flow, least, e) in
    (largest m f.interval (cycle (drop (i + 1) fs)) ∙ ap (max m) (sym c) ∙ s.0, smallest k f.interval (least (cycle fs) (drop (i + 1) fs)) ∙ ap (min k) (sym l) ∙ s.1)
  where
    largest : (x y z : ℕ) → max (max x y) z ≡ max x (max y z)
    largest x y z = omega arith

    smallest : (x y z : ℕ) → min (min x y) z ≡ min x (min y z)
    smallest x y z = omega arith

pub span_end : (fs : List Flow) (i m k : ℕ) → length fs ≤ i → m ≤ 65535 → SpanAt fs i m k → (m ≡ cycle fs) × (min k m ≡ frame fs)
unfolding cycle least frame
span_end fs i m k h b s =
    let none : drop i fs ≡ [] = drop_of_length-le fs h in
    let c : max m 0 ≡ cycle fs = rw none at s.0 in
    let l : min k (cycle fs) ≡ min 65535 (least (cycle fs) fs) = rw none at s.1 in
    (omega arith, omega (arith, least_upto (cycle fs) fs))

-- ---- sums: s so far, of numbers that are at most b each

abbrev pub SumAt : (Flow → ℕ) → ℕ → List Flow → ℕ → ℕ → Type 0
SumAt v b fs i s = (s + sum v (drop i fs) ≡ sum v fs) × (s ≤ b * i)

pub sum-start : (v : Flow → ℕ) (b : ℕ) (fs : List Flow) → SumAt v b fs 0 0
sum-start v b fs = (omega arith, omega arith)

pub sum-next : (v : Flow → ℕ) (b : ℕ) (fs : List Flow) (i s x : ℕ) → i < length fs → x ≡ v (get_or fs i no_flow) → x ≤ b → SumAt v b fs i s → SumAt v b fs (i + 1) (s + x)
unfolding sum
sum-next v b fs i s x h e l a =
    let d : sum v (drop i fs) ≡ v (get_or fs i no_flow) + sum v (drop (i + 1) fs) = rw (add-one, drop-cons fs i no_flow, sum) in
    (omega arith, omega arith)

pub sum_end : (v : Flow → ℕ) (b : ℕ) (fs : List Flow) (i s : ℕ) → length fs ≤ i → SumAt v b fs i s → s ≡ sum v fs
unfolding sum
sum_end v b fs i s h a =
    let none : drop i fs ≡ [] = drop_of_length-le fs h in
    let t : s + 0 ≡ sum v fs = rw none at a.0 in
    omega arith

-- a product of two numbers of 16 bits
pub product_le : (a b : ℕ) → a < 65536 → b < 65536 → a * b ≤ 65535 * 65535
product_le a b h k =
    let p : a * b ≤ a * 65535 = mul-le-mul_left a (omega arith) in
    omega arith
