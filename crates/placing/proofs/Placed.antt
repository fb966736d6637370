-- A flow put into its first lawful frame. Assumes nothing.
use Rattle.std.proofs.Common.{Some, ◌≡◌, refl, ap, subst, true, false, List, [], ◌∷◌, ◌++◌, ℕ, suc, ◌+◌, ◌≤◌, ◌<◌, arith, ltb}
use borrow.Author.Tests.{ltb-true, lt-ltb}
use Rattle.logic.specs.Lists.{All, sum}
use Rattle.logic.proofs.Tests.{by_test, true-not-false}
use Rattle.logic.proofs.Members.{all_imp}
use Rattle.logic.proofs.Appends.{all_append, sum-append}
use Rattle.flows.specs.declared.flow.Flow.{Flow}
use Rattle.lists.specs.Facts.{occupies}
use Rattle.placing.specs.Rule.{Settled, Frame, content, past, lawful, takes, first_lawful, contents, olds, put}
use Rattle.placing.proofs.Overhangs.{passing, Each, Spare, Based, each_along, lawful_each}

-- the frame with the flow after its content
abbrev pub with_flow : Flow → Frame → Frame
with_flow f x = record { old = x.old; new = x.new ++ (f ∷ []) }

pub content_with : (f : Flow) (x : Frame) → content (with_flow f x) ≡ content x + occupies f
unfolding content sum
content_with f x = omega (arith, sum-append occupies x.new (f ∷ []))

-- what a frame that takes a flow has
pub takes-here : (φ : ℕ) (f : Flow) (o : ℕ) (x : Frame) (xs : List Frame) → takes φ (occupies f) o (contents (x ∷ xs)) (olds (x ∷ xs)) ≡ true
    → (o + content x < φ) × (lawful φ o (contents (with_flow f x ∷ xs)) (olds (with_flow f x ∷ xs)) ≡ true)
unfolding takes contents olds
takes-here φ f o x xs e =
    by_test (ltb (o + content x) φ)
    (λ t. (ltb-true (o + content x) φ t, rw (content_with f x) (rw (t, takes) at e)))
    (λ t. let k : false ≡ true = rw (t, takes) at e in true-not-false (cc))

pub here-takes : (φ : ℕ) (f : Flow) (o : ℕ) (x : Frame) (xs : List Frame) → o + content x < φ
    → lawful φ o (contents (with_flow f x ∷ xs)) (olds (with_flow f x ∷ xs)) ≡ true → takes φ (occupies f) o (contents (x ∷ xs)) (olds (x ∷ xs)) ≡ true
unfolding takes contents olds
here-takes φ f o x xs l w = rw (lt-ltb (o + content x) φ l, takes) (rw (content_with f x) at w)

-- induction over the search: what holds where the flow is put, and of a frame that is passed by
module _ (φ : ℕ) (f : Flow) (R : ℕ → List Frame → List Frame → Type 0)
    (here : (o : ℕ) (x : Frame) (xs : List Frame) → o + content x < φ
    → lawful φ o (contents (with_flow f x ∷ xs)) (olds (with_flow f x ∷ xs)) ≡ true → R o (x ∷ xs) (with_flow f x ∷ xs))
    (beyond : (o : ℕ) (x : Frame) (xs ys : List Frame) → R (past φ o (content x)) xs ys → R o (x ∷ xs) (x ∷ ys)) where
  search_ind : (k n o : ℕ) (xs : List Frame) → first_lawful φ (occupies f) k o (contents xs) (olds xs) ≡ Some n
      → (j : ℕ) × (n ≡ k + j) × R o xs (put f j xs)
  unfolding first_lawful contents olds put
  search_ind k n o [] e = let z : ◌≡◌ {A = ℕ} 0 1 = cc in absurd (omega arith)
  search_ind k n o (x ∷ xs) e =
      by_test (takes φ (occupies f) o (contents (x ∷ xs)) (olds (x ∷ xs)))
      (λ t.
      let w = takes-here φ f o x xs t in
      let q = rw (t, first_lawful) at e in
      let i : k ≡ n = cc in
      (0, omega arith, here o x xs w.0 w.1))
      (λ t.
      let y = search_ind (suc k) n (past φ o (content x)) xs (rw (t, first_lawful) at e) in
      (suc y.0, omega (arith, y.1), beyond o x xs (put f y.0 xs) y.2))

  pub put_ind : (k : ℕ) (xs : List Frame) → first_lawful φ (occupies f) 0 0 (contents xs) (olds xs) ≡ Some k → R 0 xs (put f k xs)
  put_ind k xs e =
      let y = search_ind 0 k 0 xs e in
      let q : y.0 ≡ k = omega (arith, y.1) in
      subst (λ (j : ℕ). R 0 xs (put f j xs)) q y.2

-- a weight for each flow of the group that is being placed, summed over the frames
unfoldable pub newly : (Flow → ℕ) → List Frame → ℕ
newly v xs = sum (λ (x : Frame). sum v x.new) xs

-- P holds of every flow of the group that is being placed
abbrev pub Newly : (Flow → Type 0) → List Frame → Type 0
Newly P xs = All (λ (x : Frame). All P x.new) xs

-- what a flow put into its first lawful frame leaves, where the frames ys were xs; P is any fact of flows
pub record Put (P : Flow → Type 0) (φ : ℕ) (f : Flow) (o : ℕ) (xs ys : List Frame) : Type 0 where
  pub lawful : Each (Spare 0) φ o xs → (passing φ o ys ≡ 0) × Each (Spare 0) φ o ys
  pub based : Each (Based P) φ o xs → Each (Based P) φ o ys
  pub same : olds ys ≡ olds xs
  pub added : (v : Flow → ℕ) → newly v ys ≡ newly v xs + v f
  pub news : P f → Newly P xs → Newly P ys

-- a larger overhang
based_up : (P : Flow → Type 0) (φ o p : ℕ) (xs : List Frame) → o ≤ p → Each (Based P) φ o xs → Each (Based P) φ p xs
based_up P φ =
    each_along (λ o p. o ≤ p) (Based P) (Based P) φ (λ o p c h. omega arith)
    (λ o p h l a. all_imp (λ (g : Settled). (g.base ≤ o) × P g.flow) (λ (g : Settled). (g.base ≤ p) × P g.flow) h (λ g b. (omega arith, b.1)) a)

pub put_leaves : (P : Flow → Type 0) (φ : ℕ) (f : Flow) (k : ℕ) (xs : List Frame) → first_lawful φ (occupies f) 0 0 (contents xs) (olds xs) ≡ Some k → Put P φ f 0 xs (put f k xs)
unfolding newly sum olds passing
put_leaves P φ f =
    put_ind φ f (Put P φ f)
    (λ o x xs free l.
    record {
      lawful = λ s. lawful_each φ o (with_flow f x ∷ xs) l;
      based = λ a. (a.0, based_up P φ (past φ o (content x)) (past φ o (content (with_flow f x))) xs (omega (arith, content_with f x)) a.1);
      same = refl;
      added = λ v. omega (arith, sum-append v x.new (f ∷ []));
      news = λ p a. (all_append P x.new (f ∷ []) a.0 (p, tt), a.1);
    })
    (λ o x xs ys ih.
    record {
      lawful = λ s. let t = ih.lawful s.1 in (t.0, (s.0, t.1));
      based = λ a. (a.0, ih.based a.1);
      same = ap (λ (hs : List (List Settled)). x.old ∷ hs) ih.same;
      added = λ v. omega (arith, ih.added v);
      news = λ p a. (a.0, ih.news p a.1);
    })
