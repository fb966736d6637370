-- Grants whose starts rise, as test 12 leaves them: where the grants before a start end. Assumes nothing.
use Rattle.std.proofs.Common.{◌≡◌, ap, List, [], ◌∷◌, ℕ, zero, suc, ◌≤◌, ◌<◌, zero-le, suc-le-suc, not-suc-le-zero, le_of_suc-le-suc, arith, length, get_or, lt-ltb, le-ltb, ltb-true}
use Rattle.logic.proofs.Tests.{by_lt}
use Rattle.refusals.specs.declared.Refusal.TheVariants.{NotRising}
use Rattle.refusals.specs.Results.{Passed}
use Rattle.refusals.specs.Tests.{against, after}
use Rattle.refusals.proofs.Lowest.{Pass, lowest_pass}
use Rattle.refusals.proofs.Walks.{against-after}
use Rattle.tables.specs.declared.packed.Grant.{Grant}
use Rattle.tables.specs.Tables.{count, grant_at, grants_of}
use Rattle.tables.specs.Form.{rises, test12}
use Rattle.tables.proofs.Records.{length-grants, grant_is}
use Rattle.windows.specs.Window.{before}

-- each grant starts after the one before it, the first after p
abbrev pub RisesFrom : Grant → List Grant → Type 0
RisesFrom p [] = Unit
RisesFrom p (g ∷ gs) = (p.start < g.start) × RisesFrom g gs

-- each grant starts after the one before it
abbrev pub Rises : List Grant → Type 0
Rises [] = Unit
Rises (g ∷ gs) = RisesFrom g gs

pub rises-rest : (p : Grant) (gs : List Grant) → RisesFrom p gs → Rises gs
rises-rest p [] h = tt
rises-rest p (g ∷ gs) h = h.1

rises-after : (p : Grant) (gs : List Grant) → Pass (against (after rises) (p ∷ []) gs) → RisesFrom p gs
unfolding rises
rises-after p [] h = tt
rises-after p (g ∷ gs) h =
    let both : Pass (rises p g ∷ against (after rises) (g ∷ []) gs) = rw (against-after rises p [] g gs) at h in
    (ltb-true p.start g.start both.0, rises-after g gs both.1)

-- test 12 says so
pub rises-all : (gs : List Grant) → test12 gs ≡ Passed → Rises gs
unfolding test12 against
rises-all [] e = tt
rises-all (g ∷ gs) e = rises-after g gs (lowest_pass NotRising 1 (against (after rises) [] (g ∷ gs)) e).1

module _ (none : Grant) where
  -- every grant starts after p
  starts-after : (p : Grant) (gs : List Grant) (j : ℕ) → RisesFrom p gs → j < length gs → p.start < (get_or gs j none).start
  starts-after p [] j h l = absurd (omega arith)
  starts-after p (g ∷ gs) zero h l = h.0
  starts-after p (g ∷ gs) (suc j) h l = let s = starts-after g gs j h.1 (le_of_suc-le-suc l) in omega arith

  module _ (a : ℕ) where
    -- the grants before the first that starts at a or later start below a
    pub below-before : (gs : List Grant) (j : ℕ) → j < before a gs → (get_or gs j none).start < a
    unfolding before
    below-before [] j h = absurd (omega arith)
    below-before (g ∷ gs) zero h = by_lt g.start a (λ l. l) (λ l. absurd (not-suc-le-zero (rw (le-ltb g.start a l) at h)))
    below-before (g ∷ gs) (suc j) h =
        by_lt g.start a
        (λ l. below-before gs j (le_of_suc-le-suc (rw (lt-ltb g.start a l) at h)))
        (λ l. absurd (not-suc-le-zero (rw (le-ltb g.start a l) at h)))

    -- the grant behind them, where there is one, starts at a or later
    pub first-from : (gs : List Grant) → before a gs < length gs → a ≤ (get_or gs (before a gs) none).start
    unfolding before
    first-from [] h = absurd (omega arith)
    first-from (g ∷ gs) h =
        by_lt g.start a
        (λ l. rw (lt-ltb g.start a l) (first-from gs (le_of_suc-le-suc (rw (lt-ltb g.start a l) at h))))
        (λ l. rw (le-ltb g.start a l) l)

    -- no grant that starts at a or later is among them
    pub before_upto : (gs : List Grant) (j : ℕ) → a ≤ (get_or gs j none).start → before a gs ≤ j
    before_upto gs j l = by_lt j (before a gs) (λ h. let s = below-before gs j h in absurd (omega arith)) (λ h. h)

    -- every grant that starts below a is, where the starts rise
    pub before-past : (gs : List Grant) → Rises gs → (j : ℕ) → j < length gs → (get_or gs j none).start < a → j < before a gs
    unfolding before
    before-past [] h j l s = absurd (omega arith)
    before-past (g ∷ gs) h zero l s = rw (lt-ltb g.start a s) (suc-le-suc zero-le)
    before-past (g ∷ gs) h (suc j) l s =
        let m = le_of_suc-le-suc l in
        let first = starts-after g gs j h m in
        rw (lt-ltb g.start a (omega arith)) (suc-le-suc (before-past gs (rises-rest g gs h) j m s))

-- what a table's record i says of the grants before a start
module _ (t : List ℕ) (a i : ℕ) (g : Grant) (read : g ≡ grant_at t i) (inside : i < count t) where
  at_i : g.start ≡ (get_or (grants_of t) i g).start
  at_i = ap (λ (g : Grant). g.start) (grant_is t g i g inside read)

  -- it starts below a, and so is one of them where the starts rise
  pub past : g.start < a → test12 (grants_of t) ≡ Passed → i < before a (grants_of t)
  past l p = before-past g a (grants_of t) (rises-all (grants_of t) p) i (omega (arith, length-grants t)) (omega (arith, at_i))

  -- or at a or later, and all of them stand before it
  pub upto : a ≤ g.start → before a (grants_of t) ≤ i
  upto l = before_upto g a (grants_of t) i (omega (arith, at_i))
