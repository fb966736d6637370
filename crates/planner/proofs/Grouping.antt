-- Placing a group by numbers is placing it over frames of grants. Assumes nothing.
use Rattle.std.proofs.Common.{Some, None, Ok, Err, Result, ◌≡◌, refl, sym, ap, ◌∙◌, Bool, true, false, List, [], ◌∷◌, ◌++◌, append_assoc, append-nil, ℕ, zero, suc, ◌+◌, ◌-◌, ◌*◌, ◌≤◌, ◌<◌, arith, eqb, length, get_or, set, length-set, length-append, get_or-set_same, get_or-set_other}
use native.Mathlib.Nat.{sub-zero}
use lib.ListN.{length-map}
use borrow.Author.Tests.{lt-ltb, le-ltb, eq-eqb, ne_eqb}
use Rattle.flows.specs.declared.flow.Flow.{Flow}
use Rattle.logic.specs.Lists.{sum}
use Rattle.lists.specs.Facts.{occupies}
use Rattle.placing.specs.Rule.{Outcome, done, refused, Settled, Frame, weight, content, past, lawful, takes, first_lawful, contents, olds, put, group}
use Rattle.planner.specs.Cells.{free, limit, limits, first, step, Laid, Small, group_cells, keep, stands, members, granted}
use Rattle.logic.proofs.Appends.{sum-append}
use Rattle.placing.proofs.Groups.{group_at, group_nowhere, group-other, by_found}
use Rattle.logic.proofs.Tests.{by_test, by_lt, by_eq, true-not-false}
use Rattle.planner.proofs.Limits.{total, lawful_tail, lawful-room, first_lawful-first, first_fits}

-- a group that has no lawful frame for a flow is not placed
pub no_frame-not-lawful : {P : Type 0} {p : ℕ} → ◌≡◌ {A = Result Unit ℕ} (Err p) (Ok tt) → P
no_frame-not-lawful e = let z : ◌≡◌ {A = ℕ} 0 1 = cc in absurd (omega arith)

-- a frame with nothing in it
abbrev pub none : Frame
none = record { old = []; new = [] }

pub length-contents : (L : List Frame) → length (contents L) ≡ length L
unfolding contents
length-contents L = length-map L _

pub length-olds : (L : List Frame) → length (olds L) ≡ length L
unfolding olds
length-olds L = length-map L _

pub length-limits : (hs : List (List Settled)) → length (limits hs) ≡ length hs
unfolding limits
length-limits hs = length-map hs limit

-- ---- a flow put into frame k

contents-put : (f : Flow) (k : ℕ) (L : List Frame) → contents (put f k L) ≡ set (contents L) k (get_or (contents L) k 0 + occupies f)
unfolding contents put content sum
contents-put f k [] = refl
contents-put f zero (x ∷ L) =
    let e : weight x.old + sum occupies (x.new ++ (f ∷ [])) ≡ weight x.old + sum occupies x.new + occupies f = omega (arith, sum-append occupies x.new (f ∷ [])) in
    ap (λ (c : ℕ). c ∷ contents L) e
contents-put f (suc k) (x ∷ L) = ap (λ (l : List ℕ). content x ∷ l) (contents-put f k L)

olds-put : (f : Flow) (k : ℕ) (L : List Frame) → olds (put f k L) ≡ olds L
unfolding olds put
olds-put f k [] = refl
olds-put f zero (x ∷ L) = refl
olds-put f (suc k) (x ∷ L) = ap (λ (l : List (List Settled)). x.old ∷ l) (olds-put f k L)

new-put : (f : Flow) (k m : ℕ) (L : List Frame) → m < length L → (get_or (put f k L) m none).new ≡ (get_or L m none).new ++ keep (eqb k m) f []
unfolding put keep
new-put f k m [] h = absurd (omega arith)
new-put f zero zero (x ∷ L) h = refl
new-put f zero (suc m) (x ∷ L) h = rw (ne_eqb 0 (suc m) (λ e. omega arith)) (sym (append-nil (get_or L m none).new))
new-put f (suc k) zero (x ∷ L) h = rw (ne_eqb (suc k) 0 (λ e. omega arith)) (sym (append-nil x.new))
new-put f (suc k) (suc m) (x ∷ L) h =
    new-put f k m L (omega arith)
    ∙ by_eq k m
    (λ e. rw (eq-eqb k m e, eq-eqb (suc k) (suc m) (omega arith)))
    (λ e. rw (ne_eqb k m e, ne_eqb (suc k) (suc m) (λ z. e (omega arith))))

length-put : (f : Flow) (k : ℕ) (L : List Frame) → length (put f k L) ≡ length L
unfolding put
length-put f k [] = refl
length-put f zero (x ∷ L) = refl
length-put f (suc k) (x ∷ L) = ap suc (length-put f k L)

-- where the first lawful frame is, the window stays lawful
first_lawful-lawful : (φ s j o k : ℕ) (cs : List ℕ) (hs : List (List Settled)) → lawful φ o cs hs ≡ true → first_lawful φ s j o cs hs ≡ Some k
    → lawful φ o (set cs (k - j) (get_or cs (k - j) 0 + s)) hs ≡ true
unfolding first_lawful takes lawful
first_lawful-lawful φ s j o k [] hs l e = let z : ◌≡◌ {A = ℕ} 0 1 = cc in absurd (omega arith)
first_lawful-lawful φ s j o k (c ∷ cs) [] l e = true-not-false (sym l)
first_lawful-lawful φ s j o k (c ∷ cs) (h ∷ hs) l e =
    by_test (takes φ s o (c ∷ cs) (h ∷ hs))
    (λ b.
    let f = rw (b, first_lawful) at e in
    let q : j ≡ k = cc in
    let at : k - j ≡ 0 = omega arith in
    by_lt (o + c) φ
    (λ u. rw at (rw (lt-ltb (o + c) φ u, takes) at b))
    (λ u. let z : false ≡ true = rw (le-ltb (o + c) φ u, takes) at b in true-not-false (sym z)))
    (λ b.
    let t = lawful_tail φ o c cs h hs l in
    let f = rw (b, first_lawful) at e in
    let up = first_lawful-from φ s (suc j) (past φ o c) k cs hs f in
    let at : k - j ≡ suc (k - suc j) = omega arith in
    rw at (rw (t.0, lawful) (first_lawful-lawful φ s (suc j) (past φ o c) k cs hs t.1 f)))
  where
    first_lawful-from : (φ s j o k : ℕ) (cs : List ℕ) (hs : List (List Settled)) → first_lawful φ s j o cs hs ≡ Some k → j ≤ k
    first_lawful-from φ s j o k [] hs e = let z : ◌≡◌ {A = ℕ} 0 1 = cc in absurd (omega arith)
    first_lawful-from φ s j o k (c ∷ cs) [] e = let z : ◌≡◌ {A = ℕ} 0 1 = cc in absurd (omega arith)
    first_lawful-from φ s j o k (c ∷ cs) (h ∷ hs) e =
        by_test (takes φ s o (c ∷ cs) (h ∷ hs))
        (λ b. let f = rw (b, first_lawful) at e in let q : j ≡ k = cc in omega arith)
        (λ b. let r = first_lawful-from φ s (suc j) (past φ o c) k cs hs (rw (b, first_lawful) at e) in omega arith)

-- ---- members and grants when a flow's frame is set

keep_append : {A : Type 0} (b : Bool) (x : A) (xs ys : List A) → keep b x (xs ++ ys) ≡ keep b x xs ++ ys
unfolding keep
keep_append true x xs ys = refl
keep_append false x xs ys = refl

module _ (i m : ℕ) where
  pub stands-own : (f : Flow) (k : ℕ) → f.interval ≡ i → stands i m f k ≡ eqb k m
  unfolding stands
  stands-own f k e = rw (eq-eqb f.interval i e)

  pub stands-not : (f : Flow) (k : ℕ) → (f.interval ≡ i → ⊥) → stands i m f k ≡ false
  unfolding stands
  stands-not f k e = rw (ne_eqb f.interval i e)

  -- the last flow, whose frame is set just now
  members-last : (j n k : ℕ) (xs : List Flow) (f : Flow) (ks : List ℕ) → f.interval ≡ i → j + length xs ≡ n → n < length ks
      → members i m j (xs ++ (f ∷ [])) (set ks n k) ≡ members i m j xs ks ++ keep (eqb k m) f []
  unfolding members
  members-last j n k [] f ks e q h =
      let at : j ≡ n = omega arith in
      rw (at, get_or-set_same ks n k 0 h, stands-own f k e)
  members-last j n k (x ∷ xs) f ks e q h =
      rw (get_or-set_other ks n j k 0 (λ z. omega arith), members-last (suc j) n k xs f ks e (omega arith) h)
      (keep_append (stands i m x (get_or ks j 0)) x (members i m (suc j) xs ks) (keep (eqb k m) f []))

  members-other : (j : ℕ) (xs : List Flow) (f : Flow) (ks : List ℕ) → (f.interval ≡ i → ⊥) → members i m j (xs ++ (f ∷ [])) ks ≡ members i m j xs ks
  unfolding members keep
  members-other j [] f ks e = rw (stands-not f (get_or ks j 0) e)
  members-other j (x ∷ xs) f ks e = rw (members-other (suc j) xs f ks e)

  module _ (bs : List ℕ) where
    -- a set before the first index changes nothing
    granted_front : (j n k : ℕ) (fs : List Flow) (ks : List ℕ) → n < j → granted i m j fs (set ks n k) bs ≡ granted i m j fs ks bs
    unfolding granted
    granted_front j n k [] ks h = refl
    granted_front j n k (f ∷ fs) ks h = rw (get_or-set_other ks n j k 0 (λ e. omega arith), granted_front (suc j) n k fs ks (omega arith))

    -- nor does the frame of a flow of another interval
    granted-apart : (j n k : ℕ) (xs : List Flow) (f : Flow) (ys : List Flow) (ks : List ℕ) → (f.interval ≡ i → ⊥) → j + length xs ≡ n
        → granted i m j (xs ++ f ∷ ys) (set ks n k) bs ≡ granted i m j (xs ++ f ∷ ys) ks bs
    unfolding granted keep
    granted-apart j n k [] f ys ks e q =
        rw (stands-not f (get_or (set ks n k) j 0) e, stands-not f (get_or ks j 0) e) (granted_front (suc j) n k ys ks (omega arith))
    granted-apart j n k (x ∷ xs) f ys ks e q =
        rw (get_or-set_other ks n j k 0 (λ z. omega arith), granted-apart (suc j) n k xs f ys ks e (omega arith))

-- ---- the group being placed

-- the numbers say what the frames hold, after the flows xs of the list
pub record Filling (φ i : ℕ) (xs : List Flow) (L : List Frame) (cs ls ks : List ℕ) : Type 0 where
  pub content : cs ≡ contents L
  pub limit : ls ≡ limits (olds L)
  pub law : lawful φ 0 (contents L) (olds L) ≡ true
  pub new : (m : ℕ) → m < length L → (get_or L m none).new ≡ members i m 0 xs ks

-- the next flow is of another group
filling_other : (φ i : ℕ) (xs : List Flow) (f : Flow) (L : List Frame) (cs ls ks : List ℕ) → (f.interval ≡ i → ⊥) → Filling φ i xs L cs ls ks
    → Filling φ i (xs ++ (f ∷ [])) L cs ls ks
filling_other φ i xs f L cs ls ks e F =
    record { content = F.content; limit = F.limit; law = F.law; new = λ m h. F.new m h ∙ sym (members-other i m 0 xs f ks e) }

-- the next flow has found frame k
filling_put : (φ i k : ℕ) (xs : List Flow) (f : Flow) (L : List Frame) (cs ls ks : List ℕ) → f.interval ≡ i → length xs < length ks
    → first_lawful φ (occupies f) 0 0 (contents L) (olds L) ≡ Some k → Filling φ i xs L cs ls ks
    → Filling φ i (xs ++ (f ∷ [])) (put f k L) (set cs k (get_or cs k 0 + occupies f)) ls (set ks (length xs) k)
filling_put φ i k xs f L cs ls ks e h a F =
    record {
      content = rw F.content (sym (contents-put f k L));
      limit = F.limit ∙ ap limits (sym (olds-put f k L));
      law = rw (contents-put f k L, olds-put f k L) (simp sub-zero at (first_lawful-lawful φ (occupies f) 0 0 k (contents L) (olds L) F.law a));
      new = λ m l.
          let l' : m < length L = omega (arith, sym (length-put f k L), l) in
          new-put f k m L l' ∙ ap (λ (x : List Flow). x ++ keep (eqb k m) f []) (F.new m l') ∙ sym (members-last i m 0 (length xs) k xs f ks e (omega arith) h);
    }

-- the group of interval i is placed: L was before, and the flows' frames were ks
pub record Filled (φ i : ℕ) (fs : List Flow) (L M : List Frame) (cs ls ks ns : List ℕ) : Type 0 where
  pub filling : Filling φ i fs M cs ls ns
  pub old : olds M ≡ olds L
  pub apart : (n m : ℕ) (bs : List ℕ) → (n ≡ i → ⊥) → granted n m 0 fs ns bs ≡ granted n m 0 fs ks bs
  pub many : length ns ≡ length ks

-- the numbers' answer is the frames'
abbrev pub Placed-as : ℕ → ℕ → List Flow → List Frame → List ℕ → List ℕ → Outcome (List Frame) → Laid → Type 0
Placed-as φ i fs L ls ks (refused p) c = c.placed ≡ Err p
Placed-as φ i fs L ls ks (done M) c = (c.placed ≡ Ok tt) × Filled φ i fs L M c.contents ls ks c.frames

-- what holds after a step holds after the whole
placed-before : (φ i : ℕ) (fs : List Flow) (L M : List Frame) (ls ks ns : List ℕ) (r : Outcome (List Frame)) (c : Laid)
    → olds M ≡ olds L → length ns ≡ length ks → ((n m : ℕ) (bs : List ℕ) → (n ≡ i → ⊥) → granted n m 0 fs ns bs ≡ granted n m 0 fs ks bs)
    → Placed-as φ i fs M ls ns r c → Placed-as φ i fs L ls ks r c
placed-before φ i fs L M ls ks ns (refused p) c o l a h = h
placed-before φ i fs L M ls ks ns (done N) c o l a h =
    let g = h.1 in
    (h.0, record { filling = g.filling; old = g.old ∙ o; apart = λ n m bs e. g.apart n m bs e ∙ a n m bs e; many = g.many ∙ l })

-- one flow of the list: the three ways
module _ (φ i j : ℕ) (cs ls ks : List ℕ) (f : Flow) where
  pub step_other : (f.interval ≡ i → ⊥) → step φ i j cs ls ks f ≡ record { stands = true; contents = cs; frames = ks }
  unfolding step
  step_other e = rw (ne_eqb f.interval i e, step)

  pub step-at : (k : ℕ) → f.interval ≡ i → first φ (occupies f) 0 0 cs ls ≡ Some k
      → step φ i j cs ls ks f ≡ record { stands = true; contents = set cs k (get_or cs k 0 + occupies f); frames = set ks j k }
  unfolding step
  step-at k e a = rw (eq-eqb f.interval i e, step) (rw (a, step))

  pub step_nowhere : f.interval ≡ i → first φ (occupies f) 0 0 cs ls ≡ None → step φ i j cs ls ks f ≡ record { stands = false; contents = cs; frames = ks }
  unfolding step
  step_nowhere e a = rw (eq-eqb f.interval i e, step) (rw (a, step))

  pub cells_on : (fs : List Flow) (ds ns : List ℕ) → step φ i j cs ls ks f ≡ record { stands = true; contents = ds; frames = ns }
      → group_cells φ i j cs ls ks (f ∷ fs) ≡ group_cells φ i (suc j) ds ls ns fs
  unfolding group_cells
  cells_on fs ds ns e = rw (e, group_cells) (rw e)

  pub cells_stop : (fs : List Flow) (ds ns : List ℕ) → step φ i j cs ls ks f ≡ record { stands = false; contents = ds; frames = ns }
      → group_cells φ i j cs ls ks (f ∷ fs) ≡ record { placed = Err (suc j); contents = ds; frames = ns }
  unfolding group_cells
  cells_stop fs ds ns e = rw (e, group_cells) (rw e)

-- each flow of interval i has one of w frames
abbrev pub Inside : ℕ → ℕ → ℕ → List Flow → List ℕ → Type 0
Inside i w j [] ks = Unit {0}
Inside i w j (f ∷ fs) ks = (f.interval ≡ i → get_or ks j 0 < w) × Inside i w (suc j) fs ks

pub inside_entry : (i w j : ℕ) (fs : List Flow) (ks : List ℕ) → Inside i w j fs ks → (d : Flow) (n : ℕ) → n < length fs → (get_or fs n d).interval ≡ i → get_or ks (j + n) 0 < w
inside_entry i w j [] ks h d n l e = absurd (omega arith)
inside_entry i w j (f ∷ fs) ks h d zero l e = let z : j + 0 ≡ j = omega arith in rw z (h.0 e)
inside_entry i w j (f ∷ fs) ks h d (suc n) l e = let z : j + suc n ≡ suc j + n = omega arith in rw z (inside_entry i w (suc j) fs ks h.1 d n (omega arith) e)

-- a frame before the first index stays
cells_front : (φ i j n : ℕ) (cs ls ks : List ℕ) (fs : List Flow) → n < j → get_or (group_cells φ i j cs ls ks fs).frames n 0 ≡ get_or ks n 0
unfolding group_cells
cells_front φ i j n cs ls ks [] h = refl
cells_front φ i j n cs ls ks (f ∷ fs) h =
    by_eq f.interval i
    (λ e.
    by_found (first φ (occupies f) 0 0 cs ls)
    (λ k a.
    rw (cells_on φ i j cs ls ks f fs _ _ (step-at φ i j cs ls ks f k e a))
    (cells_front φ i (suc j) n _ ls (set ks j k) fs (omega arith) ∙ get_or-set_other ks j n k 0 (λ z. omega arith)))
    (λ a. rw (cells_stop φ i j cs ls ks f fs _ _ (step_nowhere φ i j cs ls ks f e a))))
    (λ e. rw (cells_on φ i j cs ls ks f fs _ _ (step_other φ i j cs ls ks f e)) (cells_front φ i (suc j) n cs ls ks fs (omega arith)))

pub cells_inside : (φ i j : ℕ) (cs ls ks : List ℕ) (fs : List Flow) → j + length fs ≤ length ks → (group_cells φ i j cs ls ks fs).placed ≡ Ok tt
    → Inside i (length cs) j fs (group_cells φ i j cs ls ks fs).frames
unfolding group_cells
cells_inside φ i j cs ls ks [] h p = tt
cells_inside φ i j cs ls ks (f ∷ fs) h p =
    by_eq f.interval i
    (λ e.
    by_found (first φ (occupies f) 0 0 cs ls)
    (λ k a.
    let ds = set cs k (get_or cs k 0 + occupies f) in
    let on = cells_on φ i j cs ls ks f fs ds (set ks j k) (step-at φ i j cs ls ks f k e a) in
    let r = cells_inside φ i (suc j) ds ls (set ks j k) fs (omega (arith, length-set ks j k)) (sym (ap (λ (l : Laid). l.placed) on) ∙ p) in
    rw on (
      λ z. rw (cells_front φ i (suc j) j ds ls (set ks j k) fs (omega arith), get_or-set_same ks j k 0 (omega arith)) (omega (arith, (first_fits φ (occupies f) 0 0 k cs ls a).upto)),
      rw (length-set cs k (get_or cs k 0 + occupies f)) at r,
    ))
    (λ a. no_frame-not-lawful (sym (ap (λ (l : Laid). l.placed) (cells_stop φ i j cs ls ks f fs cs ks (step_nowhere φ i j cs ls ks f e a))) ∙ p)))
    (λ e.
    let on = cells_on φ i j cs ls ks f fs cs ks (step_other φ i j cs ls ks f e) in
    rw on (λ z. absurd (e z), cells_inside φ i (suc j) cs ls ks fs (omega arith) (sym (ap (λ (l : Laid). l.placed) on) ∙ p)))

pub group_is : (φ i b : ℕ) (xs ys : List Flow) (L : List Frame) (cs ls ks : List ℕ) → length xs + length ys ≤ length ks → Small b ys → length L * φ + b ≤ free
    → Filling φ i xs L cs ls ks → Placed-as φ i (xs ++ ys) L ls ks (group φ i (suc (length xs)) L ys) (group_cells φ i (length xs) cs ls ks ys)
unfolding group group_cells
group_is φ i b xs [] L cs ls ks h s r F =
    (refl, record { filling = rw (append-nil xs) F; old = refl; apart = λ n m bs e. refl; many = refl })
group_is φ i b xs (f ∷ ys) L cs ls ks h s r F =
    let j = length xs in
    let longer : length (xs ++ (f ∷ [])) ≡ suc j = length-append xs (f ∷ []) ∙ omega arith in
    let next : (M : List Frame) (ds ns : List ℕ) → length ns ≡ length ks → length M ≡ length L → Filling φ i (xs ++ (f ∷ [])) M ds ls ns
    → Placed-as φ i (xs ++ f ∷ ys) M ls ns (group φ i (suc (suc j)) M ys) (group_cells φ i (suc j) ds ls ns ys)
    = λ M ds ns l m G.
    let w : length M * φ ≡ length L * φ = ap (λ (x : ℕ). x * φ) m in
    rw (append_assoc xs (f ∷ []) ys, longer) at (group_is φ i b (xs ++ (f ∷ [])) ys M ds ls ns (omega (arith, longer)) s.1 (omega arith) G) in
    let bound : total (contents L) + occupies f ≤ free =
    omega (arith, lawful-room φ 0 (contents L) (olds L) F.law, ap (λ (x : ℕ). x * φ) (length-contents L)) in
    let same : first_lawful φ (occupies f) 0 0 (contents L) (olds L) ≡ first φ (occupies f) 0 0 cs ls =
    first_lawful-first φ (occupies f) 0 0 (contents L) (olds L) (omega arith) F.law ∙ rw (F.content, F.limit) in
    by_eq f.interval i
    (λ e.
    by_found (first φ (occupies f) 0 0 cs ls)
    (λ k a.
    let ds = set cs k (get_or cs k 0 + occupies f) in
    let ns = set ks j k in
    rw (group_at φ i (suc j) k L f ys e (same ∙ a), cells_on φ i j cs ls ks f ys ds ns (step-at φ i j cs ls ks f k e a))
    (placed-before φ i (xs ++ f ∷ ys) L (put f k L) ls ks ns (group φ i (suc (suc j)) (put f k L) ys) (group_cells φ i (suc j) ds ls ns ys) (olds-put f k L) (length-set ks j k)
    (λ n m bs d. granted-apart n m bs 0 j k xs f ys ks (λ z. d (sym z ∙ e)) (omega arith))
    (next (put f k L) ds ns (length-set ks j k) (length-put f k L) (filling_put φ i k xs f L cs ls ks e (omega arith) (same ∙ a) F))))
    (λ a.
    rw (group_nowhere φ i (suc j) L f ys e (same ∙ a), cells_stop φ i j cs ls ks f ys cs ks (step_nowhere φ i j cs ls ks f e a)) refl))
    (λ e.
    rw (group-other φ i (suc j) L f ys e, cells_on φ i j cs ls ks f ys cs ks (step_other φ i j cs ls ks f e))
    (next L cs ks refl refl (filling_other φ i xs f L cs ls ks e F)))
