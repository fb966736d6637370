-- Test 16, grant by grant, is one progression for each flow. Assumes nothing.
use mathlib.Core.Path.{◌≡◌, refl, sym, ap, ◌∙◌}
use mathlib.Core.Bool.{true, false}
use mathlib.Core.List.{List, [], ◌∷◌, map}
use mathlib.Core.Option.{Option, none, some}
use Prim.Native.Nat.{ℕ, zero, suc, ◌+◌, ◌≤◌, ◌<◌}
use native.Mathlib.Omega.{arith}
use lib.Dec.{leb, eqb}
use lib.ListN.{length}
use borrow.Author.Tests.{ltb-true, lt-ltb, leb-true, le-leb, eqb-true, eq-eqb}
use Rattle.logic.specs.Lists.{All}
use Rattle.logic.proofs.Tests.{by_test, true-not-false}
use Rattle.logic.proofs.Members.{Mem}
use Rattle.logic.proofs.Progressions.{progression}
use Rattle.flows.specs.declared.flow.Flow.{Flow}
use Rattle.refusals.specs.Tests.{against}
use Rattle.refusals.proofs.Lowest.{Pass}
use Rattle.lists.specs.Accepted.{Distinct}
use Rattle.tables.specs.declared.packed.Grant.{Grant}
use Rattle.law.specs.Check.{known, look, nominal, to, last, steps, timely}
use Rattle.law.proofs.Listed.{known_mem, look_mem}

-- a flow's nominal times in table order
abbrev pub times : ℕ → ℕ → List Grant → List ℕ
times z x rs = map (nominal z) (to x rs)

-- each is a lawful step from the one before
abbrev pub Follows : ℕ → Option ℕ → List ℕ → Type 0
Follows i p [] = Unit
Follows i p (n ∷ ns) = (steps i p n ≡ true) × Follows i (some n) ns

follows_progression : (i p : ℕ) (ns : List ℕ) → Follows i (some p) ns → ns ≡ progression (p + i) i (length ns)
unfolding steps progression
follows_progression i p [] h = refl
follows_progression i p (n ∷ ns) h =
    let e : n ≡ p + i = eqb-true n (p + i) h.0 in
    rw (← e) (ap (λ (l : List ℕ). n ∷ l) (follows_progression i n ns h.1))

progression_follows : (i p n : ℕ) → Follows i (some p) (progression (p + i) i n)
unfolding steps progression
progression_follows i p zero = tt
progression_follows i p (suc n) = (eq-eqb (p + i) (p + i) refl, progression_follows i (p + i) n)

pub first-progression : (i : ℕ) (ns : List ℕ) → Follows i none ns → 0 < length ns → (t : ℕ) × (t < i) × (ns ≡ progression t i (length ns))
unfolding steps progression
first-progression i [] h k = absurd (omega arith)
first-progression i (n ∷ ns) h k = (n, ltb-true n i h.0, ap (λ (l : List ℕ). n ∷ l) (follows_progression i n ns h.1))

pub progression-first : (i t n : ℕ) → t < i → Follows i none (progression t i n)
unfolding steps progression
progression-first i t zero h = tt
progression-first i t (suc n) h = (lt-ltb t i h, progression_follows i t n)

-- late neither over the jitter nor over the start
abbrev pub Punctual : ℕ → List Flow → Grant → Type 0
Punctual z fs r = (r.late ≤ (look fs r.flow).jitter) × (r.late ≤ z + r.start)

-- each grant is punctual, and each flow's times go on from those seen
pub record Times (z : ℕ) (fs : List Flow) (seen rs : List Grant) : Type 0 where
  pub punctual : All (Punctual z fs) rs
  pub follows : (f : Flow) → Mem f fs → Follows f.interval (last z f.number seen) (times z f.number rs)

timely_inv : (z : ℕ) (fs : List Flow) (seen : List Grant) (r : Grant) → timely z fs seen r ≡ true
    → Punctual z fs r × (steps (look fs r.flow).interval (last z r.flow seen) (nominal z r) ≡ true)
unfolding timely
timely_inv z fs seen r h =
    by_test (leb r.late (look fs r.flow).jitter)
    (λ e.
    let k = rw (e, timely) at h in
    by_test (leb r.late (z + r.start))
    (λ q. ((leb-true r.late (look fs r.flow).jitter e, leb-true r.late (z + r.start) q), rw q at k))
    (λ q. true-not-false (sym (rw q at k))))
    (λ e. true-not-false (sym (rw (e, timely) at h)))

pub timely_is : (z : ℕ) (fs : List Flow) (seen : List Grant) (r : Grant) → Punctual z fs r
    → timely z fs seen r ≡ steps (look fs r.flow).interval (last z r.flow seen) (nominal z r)
unfolding timely
timely_is z fs seen r p = rw (le-leb r.late (look fs r.flow).jitter p.0, timely) (rw (le-leb r.late (z + r.start) p.1))

pub not-timely : (z : ℕ) (fs : List Flow) (seen : List Grant) (r : Grant) → (Punctual z fs r → ⊥) → false ≡ timely z fs seen r
not-timely z fs seen r n = by_test (timely z fs seen r) (λ e. absurd (n (timely_inv z fs seen r e).0)) sym

module _ (z : ℕ) (fs : List Flow) (d : Distinct fs) where
  pub pass_times : (seen rs : List Grant) → All (λ r. known fs r.flow ≡ true) rs → Pass (against (timely z fs) seen rs) → Times z fs seen rs
  unfolding to last against
  pass_times seen [] k e = record { punctual = tt; follows = λ f m. tt }
  pass_times seen (r ∷ rs) k e =
      let a = timely_inv z fs seen r e.0 in
      let ih = pass_times (r ∷ seen) rs k.1 e.1 in
      record {
        punctual = (a.0, ih.punctual);
        follows = λ f m.
            by_test (eqb r.flow f.number)
            (λ q.
            let n : r.flow ≡ f.number = eqb-true r.flow f.number q in
            let g : look fs r.flow ≡ f = ap (look fs) n ∙ look_mem fs d f m in
            rw (q, to) (rw (g, n) at a.1, rw (q, last) at (ih.follows f m)))
            (λ q. rw (q, to) (rw (q, last) at (ih.follows f m)));
      }

  pub times_pass : (seen rs : List Grant) → All (λ r. known fs r.flow ≡ true) rs → Times z fs seen rs → Pass (against (timely z fs) seen rs)
  unfolding to last against
  times_pass seen [] k t = tt
  times_pass seen (r ∷ rs) k t =
      let g = known_mem fs r.flow k.0 in
      let own = rw (eq-eqb r.flow (look fs r.flow).number (sym g.1), to) at (t.follows (look fs r.flow) g.0) in (
        timely_is z fs seen r t.punctual.0 ∙ rw g.1 at own.0,
        times_pass (r ∷ seen) rs k.1 (record {
          punctual = t.punctual.1;
          follows = λ f m.
              by_test (eqb r.flow f.number)
              (λ q. rw (q, last) (rw (q, to) at (t.follows f m)).1)
              (λ q. rw (q, last) (rw (q, to) at (t.follows f m)));
        }),
      )
