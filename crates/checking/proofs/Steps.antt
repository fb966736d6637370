-- Test 16 of a grant by the stamp of its flow's last one, and what it leaves of a flow's nominal times. Assumes nothing.
use Rattle.std.proofs.Common.{◌≡◌, Bool, refl, sym, ap, true, false, ◌&&◌, List, ℕ, zero, suc, ◌+◌, ◌-◌, ◌*◌, ◌≤◌, ◌<◌, arith, mul-le-mul_right, leb}
use mathlib.Core.Option.{Option, none, some}
use borrow.Author.Tests.{ltb-true, eqb-true, le-leb, lt-leb}
use Rattle.logic.proofs.Tests.{by_order, and_both}
use Rattle.flows.specs.declared.flow.Flow.{Flow}
use Rattle.tables.specs.declared.packed.Grant.{Grant}
use Rattle.law.specs.Check.{look, nominal, last, steps, timely}
use Rattle.checking.specs.Parts.{Steady, stamp_of, steps_from, on_time}

-- ---- as the code asks it

module _ (j i s start late : ℕ) where
  pub over-jitter : j < late → false ≡ on_time j i s start late
  over-jitter h = rw (lt-leb late j h)

  pub over-start : late ≤ j → start < late → false ≡ on_time j i s start late
  over-start h l = rw (le-leb late j h, lt-leb late start l)

  -- a grant that is late neither over the jitter nor over its start
  pub on_time_lem : late ≤ j → late ≤ start → steps_from i s (start - late) ≡ on_time j i s start late
  on_time_lem h l = rw (le-leb late j h, le-leb late start l)

-- ---- as the law asks it

steps_is : (o : Option ℕ) (i s n : ℕ) → s ≡ stamp_of o → steps_from i s n ≡ steps i o n
unfolding steps
steps_is none i s n e = rw e
steps_is (some p) i s n e = let q : s ≡ suc p = omega arith in rw q

-- three questions, one behind the other
in_turn : (a b c : Bool) → (a && (b && c)) ≡ (elim a [ true ↦ elim b [ true ↦ c | false ↦ false ] | false ↦ false ])
in_turn true true c = refl
in_turn true false c = refl
in_turn false b c = refl

asked : (fs : List Flow) (seen : List Grant) (g : Grant) → let f = look fs g.flow in
    timely 0 fs seen g ≡ (leb g.late f.jitter && (leb g.late (0 + g.start) && steps f.interval (last 0 g.flow seen) (nominal 0 g)))
unfolding timely
asked fs seen g =
    let f = look fs g.flow in
    sym (in_turn (leb g.late f.jitter) (leb g.late (0 + g.start)) (steps f.interval (last 0 g.flow seen) (nominal 0 g)))

-- test 16 of a grant of flow f
pub timely_by : (fs : List Flow) (seen : List Grant) (g : Grant) (f : Flow) (s : ℕ) → f ≡ look fs g.flow → s ≡ stamp_of (last 0 g.flow seen)
    → on_time f.jitter f.interval s g.start g.late ≡ timely 0 fs seen g
timely_by fs seen g f s l e =
    let same : 0 + g.start ≡ g.start = omega arith in
    rw (asked fs seen g, ← l, same, ← steps_is (last 0 g.flow seen) f.interval s (g.start - g.late) e)

-- ---- what it leaves

-- one nominal time more
steady_next : (i n c v t : ℕ) → Steady i n c v → steps_from i v t ≡ true → t + 1 ≤ c → Steady i (n + 1) c (t + 1)
steady_next i n c zero t a e h =
    let l : t < i = ltb-true t i e in
    let z : n * i ≡ 0 * i = ap (λ (x : ℕ). x * i) (a.none refl) in
    record { none = λ q. absurd (omega arith); above = omega arith; below = omega arith; inside = h }
steady_next i n c (suc p) t a e h =
    let l : t ≡ p + i = eqb-true t (p + i) e in
    record { none = λ q. absurd (omega arith); above = omega (arith, a.above); below = omega (arith, a.below); inside = h }

-- a grant that is on time and ends inside the cycle
pub steady_grant : (j i n c v start late end : ℕ) → Steady i n c v → on_time j i v start late ≡ true → start < end → end ≤ c → Steady i (n + 1) c ((start - late) + 1)
steady_grant j i n c v start late end a e h l =
    let both = and_both (leb late j) (leb late start && steps_from i v (start - late)) e in
    let more = and_both (leb late start) (steps_from i v (start - late)) both.1 in
    steady_next i n c v (start - late) a more.1 (omega arith)

-- where the last nominal time lies in the cycle's last interval, there are as many as intervals in the cycle
pub steady_count : (i n c v q : ℕ) → Steady i n c v → q * i ≡ c → c < v + i → n ≡ q
steady_count i n c v q a e h =
    by_order n q
    (λ l. let m : (n + 1) * i ≤ q * i = mul-le-mul_right i (omega arith) in absurd (omega (arith, a.below)))
    (λ l. l)
    (λ l. let m : (q + 1) * i ≤ n * i = mul-le-mul_right i (omega arith) in absurd (omega (arith, a.above, a.inside)))
