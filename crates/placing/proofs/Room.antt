-- Where a group is under way and its flows have room, the next flow's first lawful frame is the first with a free slot. Assumes nothing.
use Rattle.std.proofs.Common.{Some, ◌≡◌, ap, ◌∙◌, true, ◌⊎◌, inl, inr, List, [], ◌∷◌, ℕ, suc, ◌+◌, ◌*◌, ◌≤◌, ◌<◌, arith, length}
use borrow.Author.Tests.{le-ltb}
use Rattle.logic.specs.Lists.{sum}
use Rattle.logic.proofs.Tests.{by_lt}
use Rattle.logic.proofs.Members.{all_imp}
use Rattle.flows.specs.declared.flow.Flow.{Flow}
use Rattle.lists.specs.Facts.{occupies}
use Rattle.placing.specs.Rule.{Settled, Frame, content, past, lawful, takes, first_lawful, contents, olds, put}
use Rattle.placing.proofs.Overhangs.{passing, Each, Spare, each_along, each_lawful}
use Rattle.placing.proofs.Placed.{with_flow, content_with, here-takes}

-- a group under way: full frames, then the first with a free slot, then frames as the group found them; d is what a flow of this
-- group can push, e what later groups can
abbrev pub Going : ℕ → ℕ → ℕ → ℕ → List Frame → Type 0
Going φ d e o [] = Unit
Going φ d e o (x ∷ xs) =
    Spare e o x.old × (((φ ≤ o + content x) × Going φ d e (past φ o (content x)) xs) ⊎ ((o + content x < φ) × Each (Spare (d + e)) φ 0 xs))

-- less to spare, at an overhang that is higher by no more than that
spare_less : (d e o p : ℕ) (h : List Settled) → p + e ≤ o + d → Spare d o h → Spare e p h
spare_less d e o p h l =
    all_imp (λ (g : Settled). o + d ≤ g.base + g.flow.jitter) (λ (g : Settled). p + e ≤ g.base + g.flow.jitter) h (λ g a. omega arith)

pub each_less : (d e φ o : ℕ) (xs : List Frame) → e ≤ d → Each (Spare d) φ o xs → Each (Spare e) φ o xs
each_less d e φ o xs l =
    each_along (λ o p. p ≤ o) (Spare d) (Spare e) φ (λ o p c h. omega arith) (λ o p h k a. spare_less d e o p h (omega arith) a) o o xs (omega arith)

-- a push of at most d into frames that the group has not touched
pub going : (φ d e o p : ℕ) (xs : List Frame) → o ≤ p → p ≤ o + d → Each (Spare (d + e)) φ o xs → Going φ d e p xs
going φ d e o p [] l k a = tt
going φ d e o p (x ∷ xs) l k a = (
  spare_less (d + e) e o p x.old (omega arith) a.0,
  by_lt (p + content x) φ
      (λ t. let q : past φ o (content x) ≡ 0 = omega arith in inr (t, rw q at a.1))
      (λ t. inl (t, going φ d e (past φ o (content x)) (past φ p (content x)) xs (omega arith) (omega arith) a.1)),
)

-- what is left for later groups
pub going_spare : (φ d e o : ℕ) (xs : List Frame) → Going φ d e o xs → Each (Spare e) φ o xs
going_spare φ d e o [] g = tt
going_spare φ d e o (x ∷ xs) g = (g.0, rest g.1 (λ h. going_spare φ d e (past φ o (content x)) xs h))
  where
    rest : ((φ ≤ o + content x) × Going φ d e (past φ o (content x)) xs) ⊎ ((o + content x < φ) × Each (Spare (d + e)) φ 0 xs)
        → (Going φ d e (past φ o (content x)) xs → Each (Spare e) φ (past φ o (content x)) xs) → Each (Spare e) φ (past φ o (content x)) xs
    rest (inl y) ih = ih y.1
    rest (inr y) ih = let q : past φ o (content x) ≡ 0 = omega arith in rw q (each_less (d + e) e φ 0 xs (omega arith) y.1)

-- what is pushed into frames of which nothing passes the end does not pass it either, if there is room for all
passing-zero : (φ o p : ℕ) (xs : List Frame) → o ≤ p → passing φ o xs ≡ 0 → p + sum content xs ≤ length xs * φ → passing φ p xs ≡ 0
unfolding passing sum
passing-zero φ o p [] l z r = omega arith
passing-zero φ o p (x ∷ xs) l z r =
    by_lt (p + content x) φ
    (λ t. let q : past φ p (content x) ≡ past φ o (content x) = omega arith in rw q z)
    (λ t. passing-zero φ (past φ o (content x)) (past φ p (content x)) xs (omega arith) z (omega arith))

-- ---- the search

search_full : (φ s k o : ℕ) (x : Frame) (xs : List Frame) → φ ≤ o + content x
    → first_lawful φ s k o (contents (x ∷ xs)) (olds (x ∷ xs)) ≡ first_lawful φ s (suc k) (past φ o (content x)) (contents xs) (olds xs)
unfolding first_lawful takes contents olds
search_full φ s k o x xs l = rw (le-ltb (o + content x) φ l, takes, first_lawful)

search_here : (φ k o : ℕ) (f : Flow) (x : Frame) (xs : List Frame) → o + content x < φ → lawful φ o (contents (with_flow f x ∷ xs)) (olds (with_flow f x ∷ xs)) ≡ true
    → first_lawful φ (occupies f) k o (contents (x ∷ xs)) (olds (x ∷ xs)) ≡ Some k
unfolding first_lawful contents olds
search_here φ k o f x xs l w = rw (here-takes φ f o x xs l w, first_lawful)

-- the flow f goes into frame j, and the group is under way as before
pub record Step (φ d e o k : ℕ) (f : Flow) (xs : List Frame) (j : ℕ) : Type 0 where
  pub found : first_lawful φ (occupies f) k o (contents xs) (olds xs) ≡ Some (k + j)
  pub going : Going φ d e o (put f j xs)
  pub clear : passing φ o (put f j xs) ≡ 0

pub step : (φ d e o k : ℕ) (f : Flow) (xs : List Frame) → 0 < occupies f → occupies f ≤ d + 1 → Going φ d e o xs → passing φ o xs ≡ 0
    → o + sum content xs + occupies f ≤ length xs * φ → (j : ℕ) × Step φ d e o k f xs j
unfolding passing sum put
step φ d e o k f [] f1 fd g z r = absurd (omega arith)
step φ d e o k f (x ∷ xs) f1 fd g z r = go g.1 (λ l i. step φ d e (past φ o (content x)) (suc k) f xs f1 fd i z (omega arith))
  where
    go : ((φ ≤ o + content x) × Going φ d e (past φ o (content x)) xs) ⊎ ((o + content x < φ) × Each (Spare (d + e)) φ 0 xs)
        → (φ ≤ o + content x → Going φ d e (past φ o (content x)) xs → (j : ℕ) × Step φ d e (past φ o (content x)) (suc k) f xs j)
        → (j : ℕ) × Step φ d e o k f (x ∷ xs) j
    go (inl y) ih =
        let s = ih y.0 y.1 in
        let n : suc k + s.0 ≡ k + suc s.0 = omega arith in (
          suc s.0,
          record {
            found = search_full φ (occupies f) k o x xs y.0 ∙ s.1.found ∙ ap Some n;
            going = (g.0, inl (y.0, s.1.going));
            clear = s.1.clear;
          },
        )
    go (inr y) ih = (
      0,
      record {
        found = search_here φ k o f x xs y.0 (each_lawful e φ o (with_flow f x ∷ xs) ended (going_spare φ d e o (with_flow f x ∷ xs) under_way)) ∙ ap Some (n k);
        going = under_way;
        clear = ended;
      },
    )
      where
        n : (k : ℕ) → k ≡ k + 0
        n k = omega arith

        c : content (with_flow f x) ≡ content x + occupies f
        c = content_with f x

        under_way : Going φ d e o (with_flow f x ∷ xs)
        under_way = (
          g.0,
          by_lt (o + content (with_flow f x)) φ
              (λ t. inr (t, y.1))
              (λ t. inl (t, going φ d e 0 (past φ o (content (with_flow f x))) xs (omega arith) (omega (arith, c)) y.1)),
        )

        ended : passing φ (past φ o (content (with_flow f x))) xs ≡ 0
        ended =
            by_lt (o + content (with_flow f x)) φ
            (λ t. let q : past φ o (content (with_flow f x)) ≡ past φ o (content x) = omega (arith, c) in rw q z)
            (λ t. passing-zero φ (past φ o (content x)) (past φ o (content (with_flow f x))) xs (omega (arith, c)) z (omega (arith, c)))
