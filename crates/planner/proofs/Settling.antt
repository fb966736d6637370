-- Ending a group by numbers is ending it over frames of grants. Assumes nothing.
use mathlib.Core.Path.{◌≡◌, refl, sym, ap, ap₂, ◌∙◌}
use mathlib.Core.Bool.{Bool, true, false}
use mathlib.Core.List.{List, [], ◌∷◌, ◌++◌, map, append_assoc, append-nil}
use Prim.Native.Nat.{ℕ, zero, suc, ◌+◌, ◌/◌, ◌%◌, ◌≤◌, ◌<◌, min}
use native.Mathlib.Nat.{mod-mod_of_dvd, mod-eq_of_lt}
use native.Mathlib.Omega.{arith}
use lib.Dec.{leb, eqb}
use lib.ListN.{length, get_or, set, take, length-set}
use lib.Seq.{get_or-set_same, get_or-set_other, ext_get_or}
use borrow.Author.Tests.{le-leb, eq-eqb, ne_eqb}
use Rattle.flows.specs.declared.flow.Flow.{Flow}
use Rattle.logic.specs.Lists.{sum}
use Rattle.lists.specs.Facts.{occupies}
use Rattle.placing.specs.Rule.{Settled, Frame, weight, content, past, within, lawful, contents, olds, settle}
use Rattle.planner.specs.Cells.{over, loads}
use Rattle.planner.specs.Cells.{limit, limits, ends, stamp, end_cells, keep, stands, members, granted, standing}
use Rattle.planner.specs.State.{Agrees, Before}
use Rattle.logic.proofs.Appends.{sum-append}
use Rattle.placing.proofs.Layouts.{settle-length}
use Rattle.logic.proofs.Tests.{by_test, by_eq, true-not-false}
use Rattle.planner.proofs.Limits.{lawful_tail}
use Rattle.planner.proofs.Grouping.{none, length-olds, length-limits, Filling, stands-own, stands-not}

-- ---- the layout

-- the flows of a group as grants of a frame that has the overhang o
abbrev stamped : ℕ → List Flow → List Settled
stamped o fs = map (λ (f : Flow). record { flow = f; base = o }) fs

pub weight-append : (g h : List Settled) → weight (g ++ h) ≡ weight g + weight h
unfolding weight
weight-append g h = sum-append (λ x. occupies x.flow) g h

weight-stamped : (o : ℕ) (fs : List Flow) → weight (stamped o fs) ≡ sum occupies fs
unfolding weight sum
weight-stamped o [] = refl
weight-stamped o (f ∷ fs) = omega (arith, weight-stamped o fs)

loads-settle : (φ o : ℕ) (L : List Frame) → loads (settle φ o L) ≡ contents L
unfolding loads settle contents content
loads-settle φ o [] = refl
loads-settle φ o (x ∷ L) =
    ap₂ (λ (c : ℕ) (l : List ℕ). c ∷ l) (weight-append x.old (stamped o x.new) ∙ omega (arith, weight-stamped o x.new)) (loads-settle φ (past φ o (content x)) L)

settle-at : (φ o m : ℕ) (L : List Frame) → m < length L
    → get_or (settle φ o L) m [] ≡ get_or (olds L) m [] ++ stamped (over φ o (take m (contents L))) (get_or L m none).new
unfolding settle over contents olds
settle-at φ o m [] h = absurd (omega arith)
settle-at φ o zero (x ∷ L) h = refl
settle-at φ o (suc m) (x ∷ L) h = settle-at φ (past φ o (content x)) m L (omega arith)

within-stamped : (o : ℕ) (h : List Settled) (fs : List Flow) → within o h ≡ true → within o (h ++ stamped o fs) ≡ true
unfolding within
within-stamped o [] [] e = refl
within-stamped o [] (f ∷ fs) e = rw (le-leb o (o + f.jitter) (omega arith), within) (within-stamped o [] fs e)
within-stamped o (g ∷ h) fs e =
    by_test (leb o (g.base + g.flow.jitter))
    (λ b. rw (b, within) (within-stamped o h fs (rw (b, within) at e)))
    (λ b. let z : false ≡ true = rw (b, within) at e in true-not-false (sym z))

lawful-settle : (φ o : ℕ) (L : List Frame) → lawful φ o (contents L) (olds L) ≡ true → lawful φ o (contents L) (settle φ o L) ≡ true
unfolding lawful contents olds settle
lawful-settle φ o [] e = e
lawful-settle φ o (x ∷ L) e =
    let t = lawful_tail φ o (content x) (contents L) x.old (olds L) e in
    rw (within-stamped o x.old x.new t.0, lawful) (lawful-settle φ (past φ o (content x)) L t.1)

-- ---- the limits

-- a limit lowered by the jitters of flows in a frame that has the overhang o
unfoldable lowered : ℕ → List Flow → ℕ → ℕ
lowered o [] l = l
lowered o (f ∷ fs) l = lowered o fs (min (o + f.jitter) l)

limit-last : (h : List Settled) (g : Settled) → limit (h ++ (g ∷ [])) ≡ min (g.base + g.flow.jitter) (limit h)
unfolding limit
limit-last [] g = refl
limit-last (x ∷ h) g = omega (arith, limit-last h g)

limit-stamped : (o : ℕ) (h : List Settled) (fs : List Flow) → limit (h ++ stamped o fs) ≡ lowered o fs (limit h)
unfolding lowered
limit-stamped o h [] = ap limit (append-nil h)
limit-stamped o h (f ∷ fs) =
    let g : Settled = record { flow = f; base = o } in
    ap limit (sym (append_assoc h (g ∷ []) (stamped o fs))) ∙ limit-stamped o (h ++ (g ∷ [])) fs ∙ ap (lowered o fs) (limit-last h g)

limits-at : (hs : List (List Settled)) (m : ℕ) → m < length hs → get_or (limits hs) m 0 ≡ limit (get_or hs m [])
unfolding limits
limits-at [] m h = absurd (omega arith)
limits-at (g ∷ hs) zero h = refl
limits-at (g ∷ hs) (suc m) h = limits-at hs m (omega arith)

pub ends_are : (φ d j : ℕ) (cs ls ks bs : List ℕ) → let k = get_or ks j 0 in let o = over φ 0 (take k cs) in
    ends φ d j cs ls ks bs ≡ record { limits = set ls k (min (o + d) (get_or ls k 0)); bases = set bs j o }
unfolding ends
ends_are φ d j cs ls ks bs = refl

-- one flow of the list: the two ways
module _ (φ i j : ℕ) (cs ls ks bs : List ℕ) (f : Flow) where
  abbrev own_base : ℕ
  own_base = over φ 0 (take (get_or ks j 0) cs)

  pub stamp-ends : f.interval ≡ i → stamp φ i j cs ls ks bs f ≡ ends φ f.jitter j cs ls ks bs
  unfolding stamp
  stamp-ends e = rw (eq-eqb f.interval i e, stamp)

  stamp-own : f.interval ≡ i → stamp φ i j cs ls ks bs f ≡ record { limits = set ls (get_or ks j 0) (min (own_base + f.jitter) (get_or ls (get_or ks j 0) 0)); bases = set bs j own_base }
  stamp-own e = stamp-ends e ∙ ends_are φ f.jitter j cs ls ks bs

  pub stamp-other : (f.interval ≡ i → ⊥) → stamp φ i j cs ls ks bs f ≡ record { limits = ls; bases = bs }
  unfolding stamp
  stamp-other e = rw (ne_eqb f.interval i e, stamp)

  pub ends_on : (fs : List Flow) (ms ds : List ℕ) → stamp φ i j cs ls ks bs f ≡ record { limits = ms; bases = ds }
      → end_cells φ i j cs ls ks bs (f ∷ fs) ≡ end_cells φ i (suc j) cs ms ks ds fs
  unfolding end_cells
  ends_on fs ms ds e = rw e

ends-length : (φ i j : ℕ) (cs ls ks bs : List ℕ) (fs : List Flow) → length (end_cells φ i j cs ls ks bs fs).limits ≡ length ls
unfolding end_cells
ends-length φ i j cs ls ks bs [] = refl
ends-length φ i j cs ls ks bs (f ∷ fs) =
    by_eq f.interval i
    (λ e. rw (ends_on φ i j cs ls ks bs f fs _ _ (stamp-own φ i j cs ls ks bs f e)) (ends-length φ i (suc j) cs _ ks _ fs ∙ simp length-set))
    (λ e. rw (ends_on φ i j cs ls ks bs f fs _ _ (stamp-other φ i j cs ls ks bs f e)) (ends-length φ i (suc j) cs ls ks bs fs))

own-limit : (φ k m d : ℕ) (cs ls : List ℕ) → k ≡ m → m < length ls
    → get_or (set ls k (min (over φ 0 (take k cs) + d) (get_or ls k 0))) m 0 ≡ min (over φ 0 (take m cs) + d) (get_or ls m 0)
own-limit φ k m d cs ls q h = rw q (get_or-set_same ls m (min (over φ 0 (take m cs) + d) (get_or ls m 0)) 0 h)

ends-limit : (φ i j m : ℕ) (cs ls ks bs : List ℕ) (fs : List Flow) → m < length ls
    → get_or (end_cells φ i j cs ls ks bs fs).limits m 0 ≡ lowered (over φ 0 (take m cs)) (members i m j fs ks) (get_or ls m 0)
unfolding end_cells members keep lowered
ends-limit φ i j m cs ls ks bs [] h = refl
ends-limit φ i j m cs ls ks bs (f ∷ fs) h =
    let k = get_or ks j 0 in
    let o = over φ 0 (take k cs) in
    by_eq f.interval i
    (λ e.
    let ms = set ls k (min (o + f.jitter) (get_or ls k 0)) in
    let r = ends-limit φ i (suc j) m cs ms ks (set bs j o) fs (omega (arith, length-set ls k (min (o + f.jitter) (get_or ls k 0)))) in
    rw (ends_on φ i j cs ls ks bs f fs ms (set bs j o) (stamp-own φ i j cs ls ks bs f e))
    (by_eq k m
    (λ q.
    rw (stands-own i m f k e, eq-eqb k m q)
    (r ∙ ap (lowered (over φ 0 (take m cs)) (members i m (suc j) fs ks)) (own-limit φ k m f.jitter cs ls q h)))
    (λ q. rw (stands-own i m f k e, ne_eqb k m q)
    (r ∙ ap (lowered (over φ 0 (take m cs)) (members i m (suc j) fs ks)) (get_or-set_other ls k m (min (o + f.jitter) (get_or ls k 0)) 0 (λ z. q (sym z)))))))
    (λ e.
    rw (ends_on φ i j cs ls ks bs f fs ls bs (stamp-other φ i j cs ls ks bs f e), stands-not i m f k e)
    (ends-limit φ i (suc j) m cs ls ks bs fs h))

-- ---- the bases

-- a base before the first index stays
ends_front : (φ i j n : ℕ) (cs ls ks bs : List ℕ) (fs : List Flow) → n < j → get_or (end_cells φ i j cs ls ks bs fs).bases n 0 ≡ get_or bs n 0
unfolding end_cells
ends_front φ i j n cs ls ks bs [] h = refl
ends_front φ i j n cs ls ks bs (f ∷ fs) h =
    let k = get_or ks j 0 in
    let o = over φ 0 (take k cs) in
    let ms = set ls k (min (o + f.jitter) (get_or ls k 0)) in
    by_eq f.interval i
    (λ e.
    rw (ends_on φ i j cs ls ks bs f fs ms (set bs j o) (stamp-own φ i j cs ls ks bs f e))
    (ends_front φ i (suc j) n cs ms ks (set bs j o) fs (omega arith) ∙ get_or-set_other bs j n o 0 (λ z. omega arith)))
    (λ e.
    rw (ends_on φ i j cs ls ks bs f fs ls bs (stamp-other φ i j cs ls ks bs f e)) (ends_front φ i (suc j) n cs ls ks bs fs (omega arith)))

ends-many : (φ i j : ℕ) (cs ls ks bs : List ℕ) (fs : List Flow) → length (end_cells φ i j cs ls ks bs fs).bases ≡ length bs
unfolding end_cells
ends-many φ i j cs ls ks bs [] = refl
ends-many φ i j cs ls ks bs (f ∷ fs) =
    by_eq f.interval i
    (λ e. rw (ends_on φ i j cs ls ks bs f fs _ _ (stamp-own φ i j cs ls ks bs f e)) (ends-many φ i (suc j) cs _ ks _ fs ∙ simp length-set))
    (λ e. rw (ends_on φ i j cs ls ks bs f fs _ _ (stamp-other φ i j cs ls ks bs f e)) (ends-many φ i (suc j) cs ls ks bs fs))

keep-stamped : (k m o p : ℕ) (f : Flow) (fs : List Flow) → (k ≡ m → o ≡ p)
    → keep (eqb k m) (record { flow = f; base = o }) (stamped p fs) ≡ stamped p (keep (eqb k m) f fs)
unfolding keep
keep-stamped k m o p f fs h = by_eq k m (λ e. rw (eq-eqb k m e, h e)) (λ e. rw (ne_eqb k m e))

keep-not : {A : Type 0} (b : Bool) (x : A) (xs : List A) → b ≡ false → keep b x xs ≡ xs
unfolding keep
keep-not b x xs e = rw e

-- the group's own grants
ends-own : (φ i j m : ℕ) (cs ls ks bs : List ℕ) (fs : List Flow) → j + length fs ≤ length bs
    → granted i m j fs ks (end_cells φ i j cs ls ks bs fs).bases ≡ stamped (over φ 0 (take m cs)) (members i m j fs ks)
unfolding granted members end_cells
ends-own φ i j m cs ls ks bs [] h = refl
ends-own φ i j m cs ls ks bs (f ∷ fs) h =
    let k = get_or ks j 0 in
    let o = over φ 0 (take k cs) in
    let ms = set ls k (min (o + f.jitter) (get_or ls k 0)) in
    by_eq f.interval i
    (λ e.
    let r = ends-own φ i (suc j) m cs ms ks (set bs j o) fs (omega (arith, length-set bs j o)) in
    let b : get_or (end_cells φ i (suc j) cs ms ks (set bs j o) fs).bases j 0 ≡ o =
    ends_front φ i (suc j) j cs ms ks (set bs j o) fs (omega arith) ∙ get_or-set_same bs j o 0 (omega arith) in
    rw (ends_on φ i j cs ls ks bs f fs ms (set bs j o) (stamp-own φ i j cs ls ks bs f e), b, r, stands-own i m f k e)
    (keep-stamped k m o (over φ 0 (take m cs)) f (members i m (suc j) fs ks) (λ q. ap (λ (x : ℕ). over φ 0 (take x cs)) q)))
    (λ e.
    rw (ends_on φ i j cs ls ks bs f fs ls bs (stamp-other φ i j cs ls ks bs f e))
    (keep-not _ _ _ (stands-not i m f k e)
    ∙ ends-own φ i (suc j) m cs ls ks bs fs (omega arith)
    ∙ ap (stamped (over φ 0 (take m cs))) (sym (keep-not (stands i m f k) f (members i m (suc j) fs ks) (stands-not i m f k e)))))

-- the grants of another group
ends-apart : (φ i j n m : ℕ) (cs ls ks bs : List ℕ) (fs : List Flow) → (n ≡ i → ⊥)
    → granted n m j fs ks (end_cells φ i j cs ls ks bs fs).bases ≡ granted n m j fs ks bs
unfolding granted end_cells keep
ends-apart φ i j n m cs ls ks bs [] d = refl
ends-apart φ i j n m cs ls ks bs (f ∷ fs) d =
    let k = get_or ks j 0 in
    let o = over φ 0 (take k cs) in
    let ms = set ls k (min (o + f.jitter) (get_or ls k 0)) in
    by_eq f.interval i
    (λ e.
    let r = ends-apart φ i (suc j) n m cs ms ks (set bs j o) fs d in
    rw (ends_on φ i j cs ls ks bs f fs ms (set bs j o) (stamp-own φ i j cs ls ks bs f e), stands-not n m f k (λ z. d (sym z ∙ e)))
    (r ∙ bases_front (suc j) j o fs (omega arith)))
    (λ e.
    let b = ends_front φ i (suc j) j cs ls ks bs fs (omega arith) in
    rw (ends_on φ i j cs ls ks bs f fs ls bs (stamp-other φ i j cs ls ks bs f e), b, ends-apart φ i (suc j) n m cs ls ks bs fs d))
  where
    bases_front : (a x o : ℕ) (gs : List Flow) → x < a → granted n m a gs ks (set bs x o) ≡ granted n m a gs ks bs
    bases_front a x o [] h = refl
    bases_front a x o (g ∷ gs) h = rw (get_or-set_other bs x a o 0 (λ z. omega arith), bases_front (suc a) x o gs (omega arith))

-- ---- the layout that a group leaves

standing-last : (φ : ℕ) (fs : List Flow) (ks bs is : List ℕ) (i m : ℕ)
    → standing φ fs ks bs (is ++ (i ∷ [])) m ≡ standing φ fs ks bs is m ++ granted i (m % (i / φ)) 0 fs ks bs
unfolding standing
standing-last φ fs ks bs [] i m = append-nil (granted i (m % (i / φ)) 0 fs ks bs)
standing-last φ fs ks bs (n ∷ is) i m =
    ap (λ (l : List Settled). granted n (m % (n / φ)) 0 fs ks bs ++ l) (standing-last φ fs ks bs is i m)
    ∙ sym (append_assoc (granted n (m % (n / φ)) 0 fs ks bs) (standing φ fs ks bs is m) (granted i (m % (i / φ)) 0 fs ks bs))

-- earlier groups stand where they stood
standing_apart : (φ i w m : ℕ) (fs : List Flow) (ks ns bs ds is : List ℕ) → Before φ i w is
    → ((n k : ℕ) → (n ≡ i → ⊥) → granted n k 0 fs ns ds ≡ granted n k 0 fs ks bs) → standing φ fs ns ds is m ≡ standing φ fs ks bs is m
unfolding standing
standing_apart φ i w m fs ks ns bs ds [] b a = refl
standing_apart φ i w m fs ks ns bs ds (n ∷ is) b a =
    ap₂ (λ (g h : List Settled). g ++ h) (a n (m % (n / φ)) (λ e. omega arith)) (standing_apart φ i w m fs ks ns bs ds is b.2 a)

-- a window of earlier groups is repeated
pub standing_again : (φ i w m : ℕ) (fs : List Flow) (ks bs is : List ℕ) → Before φ i w is → standing φ fs ks bs is (m % w) ≡ standing φ fs ks bs is m
unfolding standing
standing_again φ i w m fs ks bs [] b = refl
standing_again φ i w m fs ks bs (n ∷ is) b =
    ap₂ (λ (g h : List Settled). g ++ h) (ap (λ (k : ℕ). granted n k 0 fs ks bs) (mod-mod_of_dvd (n / φ) m b.1)) (standing_again φ i w m fs ks bs is b.2)

-- the group of interval i ends: M is its layout, ks and bs are from before
pub ended_is : (φ i w : ℕ) (fs : List Flow) (is : List ℕ) (hs : List (List Settled)) (M : List Frame) (cs ls ks ns bs : List ℕ)
    → Before φ i w is → length M ≡ i / φ → length fs ≤ length bs
    → ((m : ℕ) → m < length hs → get_or hs m [] ≡ standing φ fs ks bs is m)
    → Filling φ i fs M cs ls ns → olds M ≡ hs → ((n m : ℕ) (bs : List ℕ) → (n ≡ i → ⊥) → granted n m 0 fs ns bs ≡ granted n m 0 fs ks bs)
    → Agrees φ fs (is ++ (i ∷ [])) (settle φ 0 M) cs (end_cells φ i 0 cs ls ns bs fs).limits ns (end_cells φ i 0 cs ls ns bs fs).bases
ended_is φ i w fs is hs M cs ls ks ns bs b wide many old F olds= apart =
    let E = end_cells φ i 0 cs ls ns bs fs in
    let long : length ls ≡ length M = ap length F.limit ∙ length-limits (olds M) ∙ length-olds M in
    let own : (m : ℕ) → m < length M → get_or (settle φ 0 M) m [] ≡ get_or hs m [] ++ stamped (over φ 0 (take m cs)) (members i m 0 fs ns) =
    λ m h. settle-at φ 0 m M h ∙ ap₂ (λ (g : List Settled) (f : List Flow). g ++ stamped (over φ 0 (take m (contents M))) f) (ap (λ (l : List (List Settled)). get_or l m []) olds=) (F.new m h) ∙ rw F.content in
    record {
      content = F.content ∙ sym (loads-settle φ 0 M);
      limit = ext_get_or 0 E.limits (limits (settle φ 0 M))
          (ends-length φ i 0 cs ls ns bs fs ∙ long ∙ sym (length-limits (settle φ 0 M) ∙ settle-length φ 0 M))
          (λ m h.
          let h' : m < length M = omega (arith, ends-length φ i 0 cs ls ns bs fs) in
          let old-limit : get_or ls m 0 ≡ limit (get_or hs m []) =
          ap (λ (l : List ℕ). get_or l m 0) F.limit ∙ limits-at (olds M) m (omega (arith, length-olds M)) ∙ ap (λ (l : List (List Settled)). limit (get_or l m [])) olds= in
          ends-limit φ i 0 m cs ls ns bs fs (omega arith)
          ∙ ap (lowered (over φ 0 (take m cs)) (members i m 0 fs ns)) old-limit
          ∙ sym (limits-at (settle φ 0 M) m (omega (arith, settle-length φ 0 M)) ∙ ap limit (own m h') ∙ limit-stamped (over φ 0 (take m cs)) (get_or hs m []) (members i m 0 fs ns)));
      law = rw (loads-settle φ 0 M) (lawful-settle φ 0 M F.law);
      stand = λ m h.
          let h' : m < length M = omega (arith, settle-length φ 0 M) in
          let at : m % (i / φ) ≡ m = mod-eq_of_lt (omega arith) in
          own m h'
          ∙ ap₂ (λ (g h : List Settled). g ++ h)
          (old m (omega (arith, ap length olds=, length-olds M)) ∙ sym (standing_apart φ i w m fs ks ns bs E.bases is b (λ n k d. ends-apart φ i 0 n k cs ls ns bs fs d ∙ apart n k bs d)))
          (sym (rw at (ends-own φ i 0 m cs ls ns bs fs (omega arith))))
          ∙ sym (standing-last φ fs ns E.bases is i m);
    }
