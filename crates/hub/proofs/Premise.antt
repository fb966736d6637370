-- Demand 3's premise is met: cases A and E tolerate their sums, and case B, with jitter 1, does not. Assumes nothing.
use Prim.Native.Nat.{◌≤◌}
use native.Mathlib.Omega.{arith}
use Rattle.lists.specs.Facts.{occupies, cycle}
use Rattle.placing.specs.Tolerance.{largest, above, need, Tolerant}
use Rattle.hub.proofs.Cases.{list_a, list_e}

pub case_A : Tolerant (list_a 2)
unfolding need above largest cycle occupies
case_A = (omega arith, (omega arith, (omega arith, tt)))

pub case_E : Tolerant list_e
unfolding need above largest cycle occupies
case_E = (omega arith, (omega arith, (omega arith, tt)))

pub case_B : Tolerant (list_a 1) → ⊥
unfolding need above largest cycle occupies
case_B h = let t : 2 ≤ 1 = h.0 in omega arith
