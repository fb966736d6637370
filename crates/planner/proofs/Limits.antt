-- The rule by contents and limits is the rule over grants. Assumes nothing.
use Rattle.std.proofs.Common.{Some, ◌≡◌, refl, sym, ◌∙◌, true, false, List, [], ◌∷◌, ℕ, zero, suc, ◌+◌, ◌-◌, ◌*◌, ◌≤◌, ◌<◌, min, arith, leb, length, get_or, take}
use borrow.Author.Tests.{le-leb, lt-leb, leb-true, leb-false, lt-ltb, le-ltb, eq-eqb, ne_eqb, eqb-true}
use Rattle.placing.specs.Rule.{Settled, past, within, lawful, takes, first_lawful}
use Rattle.planner.specs.Cells.{over}
use Rattle.planner.specs.Cells.{free, limit, limits, runs, opens, first}
use Rattle.logic.proofs.Tests.{by_test, by_lt, by_eq, true-not-false}

-- the slots of some frames
unfoldable pub total : List ℕ → ℕ
total [] = 0
total (c ∷ cs) = c + total cs

-- an overhang is within every jitter of a frame if it is not over the frame's limit
within-limit : (o : ℕ) (h : List Settled) → o ≤ free → within o h ≡ leb o (limit h)
unfolding within limit
within-limit o [] k = sym (le-leb o free k)
within-limit o (g ∷ h) k =
    by_test (leb o (g.base + g.flow.jitter))
    (λ e. rw (e, within) (within-limit o h k ∙ same (leb-true o (g.base + g.flow.jitter) e)))
    (λ e. rw (e, within) (sym (lt-leb o (min (g.base + g.flow.jitter) (limit h)) (omega (arith, leb-false o (g.base + g.flow.jitter) e)))))
  where
    same : o ≤ g.base + g.flow.jitter → leb o (limit h) ≡ leb o (min (g.base + g.flow.jitter) (limit h))
    same j =
        by_lt (limit h) o
        (λ l. lt-leb o (limit h) l ∙ sym (lt-leb o (min (g.base + g.flow.jitter) (limit h)) (omega arith)))
        (λ l. le-leb o (limit h) l ∙ sym (le-leb o (min (g.base + g.flow.jitter) (limit h)) (omega arith)))

-- what a lawful window tells of its first frame, and of the rest
pub lawful_tail : (φ o c : ℕ) (cs : List ℕ) (h : List Settled) (hs : List (List Settled)) → lawful φ o (c ∷ cs) (h ∷ hs) ≡ true
    → (within o h ≡ true) × (lawful φ (past φ o c) cs hs ≡ true)
unfolding lawful
lawful_tail φ o c cs h hs e =
    by_test (within o h) (λ w. (w, (rw (w, lawful) at e))) (λ w. let z : false ≡ true = rw (w, lawful) at e in true-not-false (sym z))

-- a lawful window has room for its frames' contents
pub lawful-room : (φ o : ℕ) (cs : List ℕ) (hs : List (List Settled)) → lawful φ o cs hs ≡ true → o + total cs ≤ length cs * φ
unfolding lawful total
lawful-room φ o [] hs e = omega (arith, eqb-true o 0 e)
lawful-room φ o (c ∷ cs) [] e = true-not-false (sym e)
lawful-room φ o (c ∷ cs) (h ∷ hs) e = omega (arith, lawful-room φ (past φ o c) cs hs (lawful_tail φ o c cs h hs e).1)

nothing : (φ o c : ℕ) (cs : List ℕ) → lawful φ o (c ∷ cs) [] ≡ false
unfolding lawful
nothing φ o c cs = refl

-- and no overhang in it is longer than the window
pub lawful-over : (φ o k : ℕ) (cs : List ℕ) (hs : List (List Settled)) → lawful φ o cs hs ≡ true → k ≤ length cs → over φ o (take k cs) ≤ length cs * φ
unfolding over
lawful-over φ o zero cs hs e h = omega (arith, lawful-room φ o cs hs e)
lawful-over φ o (suc k) [] hs e h = absurd (omega arith)
lawful-over φ o (suc k) (c ∷ cs) [] e h = true-not-false (sym e ∙ (nothing φ o c cs))
lawful-over φ o (suc k) (c ∷ cs) (h ∷ hs) e l = omega (arith, lawful-over φ (past φ o c) k cs hs (lawful_tail φ o c cs h hs e).1 (omega arith))

-- in a window that is lawful a push runs out if and only if the window stays lawful
lawful-runs : (φ o p : ℕ) (cs : List ℕ) (hs : List (List Settled)) → o ≤ p → p + total cs ≤ free → lawful φ o cs hs ≡ true
    → lawful φ p cs hs ≡ runs φ p cs (limits hs)
unfolding lawful runs limits total
lawful-runs φ o p [] hs l k e = refl
lawful-runs φ o p (c ∷ cs) [] l k e = true-not-false (sym e)
lawful-runs φ o p (c ∷ cs) (h ∷ hs) l k e =
    by_eq p 0
    (λ z. let q : o ≡ p = omega arith in (rw q at e) ∙ sym (rw (eq-eqb p 0 z, runs)))
    (λ n.
    by_lt (limit h) p
    (λ u. rw (within-limit p h (omega arith) ∙ lt-leb p (limit h) u, lawful) (sym (rw (ne_eqb p 0 n, runs) (rw (lt-ltb (limit h) p u, runs)))))
    (λ u.
    rw (within-limit p h (omega arith) ∙ le-leb p (limit h) u, lawful)
    (lawful-runs φ (past φ o c) (past φ p c) cs hs (omega arith) (omega arith) (lawful_tail φ o c cs h hs e).1
    ∙ sym (rw (ne_eqb p 0 n, runs) (rw (le-ltb (limit h) p u, runs))))))

-- so the first lawful frame is found by contents and limits
pub first_lawful-first : (φ s k o : ℕ) (cs : List ℕ) (hs : List (List Settled)) → o + total cs + s ≤ free → lawful φ o cs hs ≡ true
    → first_lawful φ s k o cs hs ≡ first φ s k o cs (limits hs)
unfolding first_lawful first limits total takes opens lawful
first_lawful-first φ s k o [] hs r e = refl
first_lawful-first φ s k o (c ∷ cs) [] r e = refl
first_lawful-first φ s k o (c ∷ cs) (h ∷ hs) r e =
    let t = lawful_tail φ o c cs h hs e in
    let sum : o + (c + s) ≡ o + c + s = omega arith in
    let here : lawful φ o ((c + s) ∷ cs) (h ∷ hs) ≡ runs φ (past φ (o + c) s) cs (limits hs) =
    rw (t.0, lawful) (rw sum (lawful-runs φ (past φ o c) (past φ (o + c) s) cs hs (omega arith) (omega arith) t.1)) in
    let same : takes φ s o (c ∷ cs) (h ∷ hs) ≡ opens φ s o (c ∷ cs) (limits (h ∷ hs)) =
    by_lt (o + c) φ (λ u. rw (lt-ltb (o + c) φ u, takes, opens) here) (λ u. rw (le-ltb (o + c) φ u, takes, opens)) in
    let rest = first_lawful-first φ s (suc k) (past φ o c) cs hs (omega arith) t.1 in
    by_test (opens φ s o (c ∷ cs) (limits (h ∷ hs)))
    (λ b. rw (same ∙ b, first_lawful) (sym (rw (b, first))))
    (λ b. rw (same ∙ b, first_lawful) (rest ∙ sym (rw (b, first))))

-- a push that runs out fits the frames
runs-le : (φ p : ℕ) (cs ls : List ℕ) → runs φ p cs ls ≡ true → p ≤ length cs * φ
unfolding runs
runs-le φ p [] ls e = omega (arith, eqb-true p 0 e)
runs-le φ p (c ∷ cs) [] e = omega (arith, eqb-true p 0 e)
runs-le φ p (c ∷ cs) (l ∷ ls) e =
    by_eq p 0 (λ z. omega arith)
    (λ n.
    let f = rw (ne_eqb p 0 n, runs) at e in
    by_lt l p (λ u. let z : false ≡ true = rw (lt-ltb l p u, runs) at f in true-not-false (sym z))
    (λ u. let g = rw (le-ltb l p u, runs) at f in omega (arith, runs-le φ (past φ p c) cs ls g)))

-- the frame that is found is one of the window, and takes the slots
pub record Fits (φ s j k : ℕ) (cs : List ℕ) : Type 0 where
  pub from : j ≤ k
  pub upto : k < j + length cs
  pub room : get_or cs (k - j) 0 + s ≤ length cs * φ

pub first_fits : (φ s j o k : ℕ) (cs ls : List ℕ) → first φ s j o cs ls ≡ Some k → Fits φ s j k cs
unfolding first opens
first_fits φ s j o k [] ls e = let z : ◌≡◌ {A = ℕ} 0 1 = cc in absurd (omega arith)
first_fits φ s j o k (c ∷ cs) [] e = let z : ◌≡◌ {A = ℕ} 0 1 = cc in absurd (omega arith)
first_fits φ s j o k (c ∷ cs) (l ∷ ls) e =
    by_test (opens φ s o (c ∷ cs) (l ∷ ls))
    (λ b.
    let f = rw (b, first) at e in
    let q : j ≡ k = cc in
    let at : k - j ≡ 0 = omega arith in
    by_lt (o + c) φ
    (λ u.
    let g = rw (lt-ltb (o + c) φ u, opens) at b in
    record { from = omega arith; upto = omega arith; room = rw at (omega (arith, runs-le φ (past φ (o + c) s) cs ls g)) })
    (λ u. let z : false ≡ true = rw (le-ltb (o + c) φ u, opens) at b in true-not-false (sym z)))
    (λ b.
    let r = first_fits φ s (suc j) (past φ o c) k cs ls (rw (b, first) at e) in
    let at : k - j ≡ suc (k - suc j) = omega (arith, r.from) in
    record { from = omega (arith, r.from); upto = omega (arith, r.upto); room = rw at (omega (arith, r.room)) })
