-- The flows of one interval, placed one after the other. Assumes nothing.
use Rattle.std.proofs.Common.{Option, Some, None, ◌≡◌, refl, sym, ap, ◌∙◌, subst, List, [], ◌∷◌, ℕ, suc, ◌+◌, ◌*◌, ◌≤◌, ◌<◌, arith, length}
use borrow.Author.Tests.{eq-eqb, ne_eqb}
use Rattle.logic.specs.Lists.{All, sum}
use Rattle.logic.proofs.Tests.{by_eq}
use Rattle.flows.specs.declared.flow.Flow.{Flow}
use Rattle.lists.specs.Facts.{occupies}
use Rattle.law.proofs.Counting.{mark, mark_same, mark-other}
use Rattle.placing.specs.Rule.{Outcome, done, refused, Frame, first_lawful, contents, olds, put, group}
use Rattle.placing.proofs.Overhangs.{passing, Each, Spare, Based}
use Rattle.placing.proofs.Placed.{newly, Newly, put_leaves}

-- ---- the three ways of a step

pub group_at : (φ i p k : ℕ) (xs : List Frame) (f : Flow) (fs : List Flow) → f.interval ≡ i
    → first_lawful φ (occupies f) 0 0 (contents xs) (olds xs) ≡ Some k → group φ i p xs (f ∷ fs) ≡ group φ i (suc p) (put f k xs) fs
unfolding group
group_at φ i p k xs f fs e w = rw (eq-eqb f.interval i e, group) (rw w)

pub group_nowhere : (φ i p : ℕ) (xs : List Frame) (f : Flow) (fs : List Flow) → f.interval ≡ i
    → first_lawful φ (occupies f) 0 0 (contents xs) (olds xs) ≡ None → group φ i p xs (f ∷ fs) ≡ refused p
unfolding group
group_nowhere φ i p xs f fs e w = rw (eq-eqb f.interval i e, group) (rw w)

pub group-other : (φ i p : ℕ) (xs : List Frame) (f : Flow) (fs : List Flow) → (f.interval ≡ i → ⊥)
    → group φ i p xs (f ∷ fs) ≡ group φ i (suc p) xs fs
unfolding group
group-other φ i p xs f fs e = rw (ne_eqb f.interval i e, group)

pub by_found {ℓ} : {P : Type ℓ} (w : Option ℕ) → ((k : ℕ) → w ≡ Some k → P) → (w ≡ None → P) → P
by_found (Some k) f g = f k refl
by_found None f g = g refl

-- induction over a group of which every flow has its place
module _ (φ i : ℕ) (R : List Flow → List Frame → List Frame → Type 0)
    (end : (xs : List Frame) → R [] xs xs)
    (own : (k : ℕ) (f : Flow) (fs : List Flow) (xs ys : List Frame) → f.interval ≡ i
    → first_lawful φ (occupies f) 0 0 (contents xs) (olds xs) ≡ Some k → R fs (put f k xs) ys → R (f ∷ fs) xs ys)
    (other : (f : Flow) (fs : List Flow) (xs ys : List Frame) → (f.interval ≡ i → ⊥) → R fs xs ys → R (f ∷ fs) xs ys) where
  pub group_ind : (p : ℕ) (fs : List Flow) (xs ys : List Frame) → group φ i p xs fs ≡ done ys → R fs xs ys
  unfolding group
  group_ind p [] xs ys e = let q : xs ≡ ys = cc in subst (R [] xs) q (end xs)
  group_ind p (f ∷ fs) xs ys e =
      by_eq f.interval i
      (λ q.
      by_found (first_lawful φ (occupies f) 0 0 (contents xs) (olds xs))
      (λ k w. own k f fs xs ys q w (group_ind (suc p) fs (put f k xs) ys (sym (group_at φ i p k xs f fs q w) ∙ e)))
      (λ w. let r : ◌≡◌ {A = Outcome (List Frame)} (refused p) (done ys) = sym (group_nowhere φ i p xs f fs q w) ∙ e in let z : ◌≡◌ {A = ℕ} 0 1 = cc in absurd (omega arith)))
      (λ q. other f fs xs ys q (group_ind (suc p) fs xs ys (sym (group-other φ i p xs f fs q) ∙ e)))

-- the flow that has no lawful frame is one of them
pub group-refused : (φ i p q : ℕ) (fs : List Flow) (xs : List Frame) → group φ i p xs fs ≡ refused q → (p ≤ q) × (q < p + length fs)
unfolding group
group-refused φ i p q [] xs e = let z : ◌≡◌ {A = ℕ} 0 1 = cc in absurd (omega arith)
group-refused φ i p q (f ∷ fs) xs e =
    by_eq f.interval i
    (λ n.
    by_found (first_lawful φ (occupies f) 0 0 (contents xs) (olds xs))
    (λ k w. omega (arith, group-refused φ i (suc p) q fs (put f k xs) (sym (group_at φ i p k xs f fs n w) ∙ e)))
    (λ w. let r : ◌≡◌ {A = Outcome (List Frame)} (refused p) (refused q) = sym (group_nowhere φ i p xs f fs n w) ∙ e in let s : p ≡ q = cc in omega arith))
    (λ n. omega (arith, group-refused φ i (suc p) q fs xs (sym (group-other φ i p xs f fs n) ∙ e)))

-- ---- what a group leaves

-- the frames xs with the flows of interval i among fs; P is any fact of flows
pub record Grouped (P : Flow → Type 0) (φ i : ℕ) (fs : List Flow) (xs ys : List Frame) : Type 0 where
  pub lawful : passing φ 0 xs ≡ 0 → Each (Spare 0) φ 0 xs → (passing φ 0 ys ≡ 0) × Each (Spare 0) φ 0 ys
  pub based : Each (Based P) φ 0 xs → Each (Based P) φ 0 ys
  pub same : olds ys ≡ olds xs
  pub added : (v : Flow → ℕ) → newly v ys ≡ newly v xs + sum (λ f. mark f.interval i * v f) fs
  pub news : All (λ f. f.interval ≡ i → P f) fs → Newly P xs → Newly P ys

pub group_leaves : (P : Flow → Type 0) (φ i p : ℕ) (fs : List Flow) (xs ys : List Frame) → group φ i p xs fs ≡ done ys → Grouped P φ i fs xs ys
unfolding sum
group_leaves P φ i =
    group_ind φ i (Grouped P φ i)
    (λ xs. record { lawful = λ z s. (z, s); based = λ a. a; same = refl; added = λ v. omega arith; news = λ p a. a })
    (λ k f fs xs ys e w ih.
    let t = put_leaves P φ f k xs w in
    record {
      lawful = λ z s. let r = t.lawful s in ih.lawful r.0 r.1;
      based = λ a. ih.based (t.based a);
      same = ih.same ∙ t.same;
      added = λ v. omega (arith, ih.added v, t.added v, ap (λ (m : ℕ). m * v f) (mark_same f.interval i e));
      news = λ p a. ih.news p.1 (t.news (p.0 e) a);
    })
    (λ f fs xs ys e ih.
    record {
      lawful = ih.lawful;
      based = ih.based;
      same = ih.same;
      added = λ v. omega (arith, ih.added v, ap (λ (m : ℕ). m * v f) (mark-other f.interval i e));
      news = λ p a. ih.news p.1 a;
    })
