-- The grants of a layout, as they stand in the table. Assumes nothing.
use mathlib.Core.Path.{◌≡◌, refl, ap}
use mathlib.Core.Bool.{true}
use mathlib.Core.List.{List, [], ◌∷◌, ◌++◌}
use Prim.Native.Nat.{ℕ, ◌+◌, ◌-◌, ◌*◌, ◌≤◌, ◌<◌}
use native.Mathlib.Omega.{arith}
use lib.Dec.{eqb}
use lib.ListN.{length}
use Rattle.logic.specs.Lists.{All, sum}
use Rattle.logic.proofs.Tests.{by_test}
use Rattle.logic.proofs.Members.{Mem, mem_all, all_imp}
use Rattle.logic.proofs.Appends.{all_append}
use Rattle.flows.specs.declared.flow.Flow.{Flow}
use Rattle.lists.specs.Facts.{occupies}
use Rattle.lists.specs.Accepted.{Accepted}
use Rattle.lists.proofs.Cycle.{occupies_pos}
use Rattle.tables.specs.declared.packed.Grant.{Grant}
use Rattle.law.specs.Check.{known, slots, nominal, to}
use Rattle.law.proofs.Listed.{mem_known, look_mem, slots_pos}
use Rattle.law.proofs.Chains.{Chain, chain_earlier}
use Rattle.law.proofs.Times.{times, Punctual}
use Rattle.placing.specs.Rule.{Settled, weight, past, opened, row, rows}
use Rattle.placing.proofs.Overhangs.{passing, Each, Spare, Based}
use Rattle.placing.proofs.Layouts.{content-unfilled}
use Rattle.placing.proofs.Nominals.{nominals_in, nominals}

-- ---- nominal times: a record's start less its late is where its group put it

times-append : (n : ℕ) (rs qs : List Grant) → times 0 n (rs ++ qs) ≡ times 0 n rs ++ times 0 n qs
unfolding to
times-append n [] qs = refl
times-append n (r ∷ rs) qs =
    let ih = times-append n rs qs in
    by_test (eqb r.flow n) (λ e. rw (e, to) (ap (λ (l : List ℕ). nominal 0 r ∷ l) ih)) (λ e. rw (e, to) ih)

row-times : (P : Flow → Type 0) (n a o : ℕ) (h : List Settled) → Based P o h → times 0 n (row (a + o) o h) ≡ nominals_in n a h
unfolding row to nominals_in
row-times P n a o [] b = refl
row-times P n a o (g ∷ h) b =
    let e : (0 + (a + o)) - (o - g.base) ≡ a + g.base = omega arith in
    let k : a + o + occupies g.flow ≡ a + occupies g.flow + o = omega arith in
    let ih = row-times P n (a + occupies g.flow) o h b.1 in
    by_test (eqb g.flow.number n) (λ q. rw (q, to, nominals_in) (rw (e, k, ih))) (λ q. rw (q, to, nominals_in) (rw (k, ih)))

pub rows-times : (P : Flow → Type 0) (φ n a o : ℕ) (hs : List (List Settled)) → Each (Based P) φ o (opened hs) → times 0 n (rows φ a o hs) ≡ nominals φ n a hs
unfolding rows nominals opened to
rows-times P φ n a o [] b = refl
rows-times P φ n a o (h ∷ hs) b =
    rw (
      times-append n (row (a + o) o h) (rows φ (a + φ) (past φ o (weight h)) hs),
      row-times P n a o h b.0,
      rows-times P φ n (a + φ) (past φ o (weight h)) hs (rw (content-unfilled h) at b.1),
    )

-- ---- each record is a listed flow's, and on time

abbrev pub Timed : List Flow → Grant → Type 0
Timed fs r = (known fs r.flow ≡ true) × Punctual 0 fs r

module _ (fs : List Flow) (ok : Accepted fs) where
  pub timed_listed : (rs : List Grant) → All (Timed fs) rs → All (λ r. known fs r.flow ≡ true) rs
  timed_listed rs = all_imp (Timed fs) (λ r. known fs r.flow ≡ true) rs (λ r p. p.0)

  pub timed_slots : (rs : List Grant) → All (Timed fs) rs → All (λ r. 0 < slots fs r) rs
  timed_slots rs a = slots_pos fs rs (mem_all (λ f. 0 < occupies f) fs (occupies_pos fs ok)) (timed_listed rs a)

  row_timed : (p o : ℕ) (h : List Settled) → o ≤ p → Based (λ f. Mem f fs) o h → Spare 0 o h → All (Timed fs) (row p o h)
  unfolding row
  row_timed p o [] l b s = tt
  row_timed p o (g ∷ h) l b s = (
    (mem_known fs g.flow b.0.1, (rw (look_mem fs ok.distinct g.flow b.0.1) (omega arith), omega arith)),
    row_timed (p + occupies g.flow) o h (omega arith) b.1 s.1,
  )

  pub rows_timed : (φ a o : ℕ) (hs : List (List Settled)) → Each (Based (λ f. Mem f fs)) φ o (opened hs) → Each (Spare 0) φ o (opened hs) → All (Timed fs) (rows φ a o hs)
  unfolding rows opened
  rows_timed φ a o [] b s = tt
  rows_timed φ a o (h ∷ hs) b s =
      all_append (Timed fs) (row (a + o) o h) (rows φ (a + φ) (past φ o (weight h)) hs) (row_timed (a + o) o h (omega arith) b.0 s.0)
      (rows_timed φ (a + φ) (past φ o (weight h)) hs (rw (content-unfilled h) at b.1) (rw (content-unfilled h) at s.1))

  -- ---- the records stand one after another, up to what passes the end of the last frame

  row_chain : (p o b : ℕ) (h : List Settled) (rs : List Grant) → Based (λ f. Mem f fs) o h → Chain fs (p + weight h) b rs → Chain fs p b (row p o h ++ rs)
  unfolding row weight sum slots
  row_chain p o b [] rs m c = chain_earlier fs p (p + 0) b rs (omega arith) c
  row_chain p o b (g ∷ h) rs m c = (
    omega arith,
    rw (look_mem fs ok.distinct g.flow m.0.1)
        (row_chain (p + occupies g.flow) o b h rs m.1
        (chain_earlier fs (p + occupies g.flow + weight h) (p + (occupies g.flow + weight h)) b rs (omega arith) c)),
  )

  pub rows_chain : (φ a o b : ℕ) (hs : List (List Settled)) → Each (Based (λ f. Mem f fs)) φ o (opened hs)
      → a + length hs * φ + passing φ o (opened hs) ≤ b → Chain fs (a + o) b (rows φ a o hs)
  unfolding rows opened passing
  rows_chain φ a o b [] m l = omega arith
  rows_chain φ a o b (h ∷ hs) m l =
      let w = content-unfilled h in
      let ih =
      rows_chain φ (a + φ) (past φ o (weight h)) b hs (rw w at m.1) (omega (arith, ap (λ (c : ℕ). passing φ (past φ o c) (opened hs)) w)) in
      row_chain (a + o) o b h (rows φ (a + φ) (past φ o (weight h)) hs) m.0
      (chain_earlier fs (a + o + weight h) (a + φ + past φ o (weight h)) b (rows φ (a + φ) (past φ o (weight h)) hs) (omega arith) ih)
