-- All flows of a group have their places, if there is room for them. Assumes nothing.
use Rattle.std.proofs.Common.{Some, ◌≡◌, refl, ap, ◌∙◌, List, [], ◌∷◌, ℕ, suc, ◌+◌, ◌*◌, ◌≤◌, ◌<◌, arith, length}
use Rattle.logic.specs.Lists.{All, sum}
use Rattle.logic.proofs.Tests.{by_eq}
use Rattle.flows.specs.declared.flow.Flow.{Flow}
use Rattle.lists.specs.Facts.{occupies}
use Rattle.law.proofs.Counting.{mark, mark_same, mark-other}
use Rattle.placing.specs.Rule.{done, Frame, weight, content, first_lawful, contents, olds, put, group}
use Rattle.placing.proofs.Overhangs.{passing}
use Rattle.placing.proofs.Placed.{newly, put_leaves}
use Rattle.placing.proofs.Groups.{group_at, group-other}
use Rattle.placing.proofs.Layouts.{granted}
use Rattle.placing.proofs.Ended.{olds-length}
use Rattle.placing.proofs.Room.{Going, step}

-- the slots in frames are those of the earlier grants and of the group's flows
pub contents-split : (xs : List Frame) → sum content xs ≡ granted occupies (olds xs) + newly occupies xs
unfolding sum content weight olds granted newly
contents-split [] = refl
contents-split (x ∷ xs) = omega (arith, contents-split xs)

-- the flows of interval i have their places in the frames xs, and the group is under way to the end
abbrev pub Filled : ℕ → ℕ → ℕ → ℕ → ℕ → List Flow → List Frame → Type 0
Filled φ d e i p fs xs = (ys : List Frame) × (group φ i p xs fs ≡ done ys) × Going φ d e 0 ys × (passing φ 0 ys ≡ 0)

filled-after : (φ d e i p r : ℕ) (fs gs : List Flow) (xs ys : List Frame) → group φ i p xs fs ≡ group φ i r ys gs → Filled φ d e i r gs ys → Filled φ d e i p fs xs
filled-after φ d e i p r fs gs xs ys q y = (y.0, q ∙ y.1, y.2, y.3)

-- they have, if each pushes at most d and there is room for all
pub filled : (φ d e i p : ℕ) (fs : List Flow) (xs : List Frame) → All (λ f. f.interval ≡ i → (0 < occupies f) × (occupies f ≤ d + 1)) fs
    → Going φ d e 0 xs → passing φ 0 xs ≡ 0 → sum content xs + sum (λ f. mark f.interval i * occupies f) fs ≤ length xs * φ → Filled φ d e i p fs xs
unfolding sum group
filled φ d e i p [] xs a g z r = (xs, refl, g, z)
filled φ d e i p (f ∷ fs) xs a g z r =
    by_eq f.interval i
    (λ q.
    let m : mark f.interval i * occupies f ≡ occupies f = rw (mark_same f.interval i q) (omega arith) in
    let s = step φ d e 0 0 f xs (a.0 q).0 (a.0 q).1 g z (omega arith) in
    let n : 0 + s.0 ≡ s.0 = omega arith in
    let w : first_lawful φ (occupies f) 0 0 (contents xs) (olds xs) ≡ Some s.0 = rw n at s.1.found in
    let t = put_leaves (λ f. Unit) φ f s.0 xs w in
    let l : length (put f s.0 xs) ≡ length xs = olds-length xs (put f s.0 xs) t.same in
    filled-after φ d e i p (suc p) (f ∷ fs) fs xs (put f s.0 xs) (group_at φ i p s.0 xs f fs q w)
    (filled φ d e i (suc p) fs (put f s.0 xs) a.1 s.1.going s.1.clear
    (rw l (omega (arith, contents-split xs, contents-split (put f s.0 xs), ap (granted occupies) t.same, t.added occupies)))))
    (λ q.
    let m : mark f.interval i * occupies f ≡ 0 = rw (mark-other f.interval i q) (omega arith) in
    filled-after φ d e i p (suc p) (f ∷ fs) fs xs xs (group-other φ i p xs f fs q) (filled φ d e i (suc p) fs xs a.1 g z (omega arith)))
