-- Document 01's "How the planner places", sentence by sentence. Assumes nothing.
use Rattle.std.specs.Prelude.{Bool, true, false, List, [], ◌∷◌, ◌++◌, map, ℕ, zero, suc, ◌+◌, ◌-◌, ◌/◌, leb, ltb, eqb, Option, Some, None}
use Rattle.logic.specs.Lists.{sum}
use Rattle.flows.specs.declared.flow.Flow.{Flow}
use Rattle.lists.specs.Facts.{occupies, cycle, frame}
use Rattle.tables.specs.declared.packed.Grant.{Grant}

-- what a step of placing comes to: a value, or the list place of the flow that has no lawful frame
pub data Outcome (A : Type 0) : Type 0 where
  done : A → Outcome A
  refused : ℕ → Outcome A

-- a grant of an earlier group: its flow, and the overhang that its frame had when its group ended
pub record Settled : Type 0 where
  pub flow : Flow
  pub base : ℕ

-- a frame: the grants of earlier groups, and after them the flows of the group that is being placed, in the order placed
pub record Frame : Type 0 where
  pub old : List Settled
  pub new : List Flow

-- ---- "In a frame, grants stand one after another in the order placed."

-- the slots that a frame's earlier grants take
unfoldable pub weight : List Settled → ℕ
weight gs = sum (λ g. occupies g.flow) gs

-- a frame's content
unfoldable pub content : Frame → ℕ
content x = weight x.old + sum occupies x.new

-- "the part of the previous frame's overhang and content that passes the frame size (0 if none does)"
abbrev pub past : ℕ → ℕ → ℕ → ℕ
past φ o c = (o + c) - φ

-- ---- "lawful if nothing passes the end of the window and every grant of an earlier group still starts within its jitter"

-- in a frame with the overhang o every grant of an earlier group starts within its jitter
unfoldable pub within : ℕ → List Settled → Bool
within o [] = true
within o (g ∷ gs) = elim (leb o (g.base + g.flow.jitter)) [ true ↦ within o gs | false ↦ false ]

-- from a frame with the overhang o on, by the frames' contents and earlier grants
unfoldable pub lawful : ℕ → ℕ → List ℕ → List (List Settled) → Bool
lawful φ o [] hs = eqb o 0
lawful φ o (c ∷ cs) [] = false
lawful φ o (c ∷ cs) (h ∷ hs) = elim (within o h) [ true ↦ lawful φ (past φ o c) cs hs | false ↦ false ]

-- ---- "A flow is tried in the frames of the window in order, and only in those with at least one free slot."

-- the first frame has a free slot, and s slots more after its content are lawful; the frames before it stay where they are
unfoldable pub takes : ℕ → ℕ → ℕ → List ℕ → List (List Settled) → Bool
takes φ s o [] hs = false
takes φ s o (c ∷ cs) hs = elim (ltb (o + c) φ) [ true ↦ lawful φ o ((c + s) ∷ cs) hs | false ↦ false ]

-- "the first lawful frame": the first, counted from k, that takes s slots
unfoldable pub first_lawful : ℕ → ℕ → ℕ → ℕ → List ℕ → List (List Settled) → Option ℕ
first_lawful φ s k o [] hs = None
first_lawful φ s k o (c ∷ cs) [] = None
first_lawful φ s k o (c ∷ cs) (h ∷ hs) =
    elim (takes φ s o (c ∷ cs) (h ∷ hs)) [ true ↦ Some k | false ↦ first_lawful φ s (suc k) (past φ o c) cs hs ]

-- the contents of frames
unfoldable pub contents : List Frame → List ℕ
contents xs = map content xs

-- the earlier grants of frames
unfoldable pub olds : List Frame → List (List Settled)
olds xs = map (λ (x : Frame). x.old) xs

-- "It is put after the frame's content": the flow f into frame k
unfoldable pub put : Flow → ℕ → List Frame → List Frame
put f k [] = []
put f zero (x ∷ xs) = record { old = x.old; new = x.new ++ (f ∷ []) } ∷ xs
put f (suc k) (x ∷ xs) = x ∷ put f k xs

-- ---- a group's begin and end

-- the frames of a layout before the next group's first flow is placed
unfoldable pub opened : List (List Settled) → List Frame
opened hs = map (λ (h : List Settled). record { old = h; new = [] }) hs

-- "When a group ends, the start of each of its flows in that window is its first nominal time": the frame's overhang is its base
unfoldable pub settle : ℕ → ℕ → List Frame → List (List Settled)
settle φ o [] = []
settle φ o (x ∷ xs) = (x.old ++ map (λ (f : Flow). record { flow = f; base = o }) x.new) ∷ settle φ (past φ o (content x)) xs

-- ---- "Groups are taken by rising interval, and flows of a group in list order."

-- the flows of interval i, in list order, each in its first lawful frame; "if there is none the list is refused"; the first of
-- the flows has the list place p
unfoldable pub group : ℕ → ℕ → ℕ → List Frame → List Flow → Outcome (List Frame)
group φ i p xs [] = done xs
group φ i p xs (f ∷ fs) =
    elim (eqb f.interval i) [
      | true ↦ elim (first_lawful φ (occupies f) 0 0 (contents xs) (olds xs)) [ Some k ↦ group φ i (suc p) (put f k xs) fs | None ↦ refused p ]
      | false ↦ group φ i (suc p) xs fs
    ]

-- "The layout at the end of one group is repeated": m times over
unfoldable pub rep : {A : Type 0} → ℕ → List A → List A
rep zero hs = []
rep (suc m) hs = hs ++ rep m hs

-- the groups of the intervals is, one after the other; the layout so far fills a window of t slots
unfoldable pub groups : ℕ → List Flow → ℕ → List (List Settled) → List ℕ → Outcome (List (List Settled))
groups φ fs t hs [] = done hs
groups φ fs t hs (i ∷ is) = elim (group φ i 1 (opened (rep (i / t) hs)) fs) [ done xs ↦ groups φ fs i (settle φ 0 xs) is | refused p ↦ refused p ]

-- some flow has the interval i
unfoldable pub present : ℕ → List Flow → Bool
present i [] = false
present i (f ∷ fs) = elim (eqb f.interval i) [ true ↦ true | false ↦ present i fs ]

-- the intervals among t + 1, .., t + n, rising
unfoldable pub rising : List Flow → ℕ → ℕ → List ℕ
rising fs t zero = []
rising fs t (suc n) = elim (present (suc t) fs) [ true ↦ suc t ∷ rising fs (suc t) n | false ↦ rising fs (suc t) n ]

-- the intervals of a list, rising
unfoldable pub intervals : List Flow → List ℕ
intervals fs = rising fs 0 (cycle fs)

-- the layout of a list; "each frame starts empty before the first group"
unfoldable pub layout : List Flow → Outcome (List (List Settled))
layout fs = groups (frame fs) fs (frame fs) ([] ∷ []) (intervals fs)

-- ---- the table

-- a frame's grants, the first at slot p; each is as late as its frame's overhang o has grown since its group ended
unfoldable pub row : ℕ → ℕ → List Settled → List Grant
row p o [] = []
row p o (g ∷ gs) = record { flow = g.flow.number; start = p; late = o - g.base } ∷ row (p + occupies g.flow) o gs

-- "The first starts at the frame's start plus its overhang": the grants of frames, of which the first starts at a
unfoldable pub rows : ℕ → ℕ → ℕ → List (List Settled) → List Grant
rows φ a o [] = []
rows φ a o (h ∷ hs) = row (a + o) o h ++ rows φ (a + φ) (past φ o (weight h)) hs

-- the planner's grants of a list
unfoldable pub planned : List Flow → Outcome (List Grant)
planned fs = elim (layout fs) [ done hs ↦ done (rows (frame fs) 0 0 hs) | refused p ↦ refused p ]
