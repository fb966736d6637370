-- The placing rule by numbers, as the code has it: for each frame its content and its limit, for each flow its frame and its base.
-- Assumes nothing.
use Rattle.std.specs.Prelude.{◌≡◌, Bool, true, false, ◌&&◌, List, [], ◌∷◌, ◌++◌, map, ℕ, suc, ◌+◌, ◌*◌, ◌/◌, ◌%◌, ◌≤◌, ◌<◌, min, ltb, eqb, length, get_or, set, take, drop, Option, Some, None, Result, Ok, Err}
use Rattle.logic.specs.Lists.{All}
use Rattle.flows.specs.declared.flow.Flow.{Flow}
use Rattle.lists.specs.Facts.{occupies}
use Rattle.placing.specs.Rule.{Settled, weight, past}

-- what passes the last of some frames, of which the first has the overhang o
unfoldable pub over : ℕ → ℕ → List ℕ → ℕ
over φ o [] = o
over φ o (c ∷ cs) = over φ (past φ o c) cs

-- a walk along the frames stands at frame k, and the overhang o comes into it
abbrev pub Reached : ℕ → List ℕ → ℕ → ℕ → Type 0
Reached φ cs k o = (k ≤ length cs) × (o ≤ 65535 * k) × (o ≡ over φ 0 (take k cs))

-- the contents of a layout's frames
unfoldable pub loads : List (List Settled) → List ℕ
loads hs = map weight hs

-- the limit of a frame that has no grant: no overhang is larger
abbrev pub free : ℕ
free = 65535

-- the largest overhang that a frame's grants bear
unfoldable pub limit : List Settled → ℕ
limit [] = free
limit (g ∷ gs) = min (g.base + g.flow.jitter) (limit gs)

-- the limits of a layout's frames
unfoldable pub limits : List (List Settled) → List ℕ
limits hs = map limit hs

-- a push of p slots onto frames runs out before the end of the window, with no frame over its limit
unfoldable pub runs : ℕ → ℕ → List ℕ → List ℕ → Bool
runs φ p [] ls = eqb p 0
runs φ p (c ∷ cs) [] = eqb p 0
runs φ p (c ∷ cs) (l ∷ ls) = elim (eqb p 0) [ true ↦ true | false ↦ elim (ltb l p) [ true ↦ false | false ↦ runs φ (past φ p c) cs ls ] ]

-- the first frame has a free slot, and the push of s slots more in it runs out
unfoldable pub opens : ℕ → ℕ → ℕ → List ℕ → List ℕ → Bool
opens φ s o [] ls = false
opens φ s o (c ∷ cs) [] = false
opens φ s o (c ∷ cs) (l ∷ ls) = elim (ltb (o + c) φ) [ true ↦ runs φ (past φ (o + c) s) cs ls | false ↦ false ]

-- none of the first k frames opens for s slots
abbrev pub Shut : ℕ → ℕ → List ℕ → List ℕ → ℕ → Type 0
Shut φ s cs ls k = (j : ℕ) → j < k → opens φ s (over φ 0 (take j cs)) (drop j cs) (drop j ls) ≡ false

-- a search for s slots may start at frame k
abbrev pub Starts : ℕ → ℕ → List ℕ → List ℕ → ℕ → ℕ → Type 0
Starts φ s cs ls k o = Reached φ cs k o × Shut φ s cs ls k

-- the first such frame, counted from k
unfoldable pub first : ℕ → ℕ → ℕ → ℕ → List ℕ → List ℕ → Option ℕ
first φ s k o [] ls = None
first φ s k o (c ∷ cs) [] = None
first φ s k o (c ∷ cs) (l ∷ ls) = elim (opens φ s o (c ∷ cs) (l ∷ ls)) [ true ↦ Some k | false ↦ first φ s (suc k) (past φ o c) cs ls ]

-- no flow takes more than b slots
abbrev pub Small : ℕ → List Flow → Type 0
Small b fs = All (λ f. occupies f ≤ b) fs

-- what placing one flow leaves: whether it stands, the frames' contents and the flows' frames
pub record Step : Type 0 where
  pub stands : Bool
  pub contents : List ℕ
  pub frames : List ℕ

-- the flow f, which has the index j, in its first lawful frame; a flow of another interval than i stands as it is
unfoldable pub step : ℕ → ℕ → ℕ → List ℕ → List ℕ → List ℕ → Flow → Step
step φ i j cs ls ks f =
    elim (eqb f.interval i) [
      | true ↦ elim (first φ (occupies f) 0 0 cs ls) [
        | Some k ↦ record { stands = true; contents = set cs k (get_or cs k 0 + occupies f); frames = set ks j k }
        | None ↦ record { stands = false; contents = cs; frames = ks }
      ]
      | false ↦ record { stands = true; contents = cs; frames = ks }
    ]

-- what placing a group leaves
pub record Laid : Type 0 where
  pub placed : Result Unit ℕ
  pub contents : List ℕ
  pub frames : List ℕ

abbrev pub laid_of : Result Unit ℕ → List ℕ → List ℕ → Laid
laid_of p cs ks = record { placed = p; contents = cs; frames = ks }

-- the flows of interval i, from the one with the index j
unfoldable pub group_cells : ℕ → ℕ → ℕ → List ℕ → List ℕ → List ℕ → List Flow → Laid
group_cells φ i j cs ls ks [] = record { placed = Ok tt; contents = cs; frames = ks }
group_cells φ i j cs ls ks (f ∷ fs) =
    let t = step φ i j cs ls ks f in
    elim t.stands [
      | true ↦ group_cells φ i (suc j) t.contents ls t.frames fs
      | false ↦ record { placed = Err (suc j); contents = t.contents; frames = t.frames }
    ]

-- what a group's end leaves: the frames' limits and the flows' bases
pub record Ended : Type 0 where
  pub limits : List ℕ
  pub bases : List ℕ

abbrev pub ended_of : List ℕ → List ℕ → Ended
ended_of ls bs = record { limits = ls; bases = bs }

-- a flow with the jitter d, which has the index j: the overhang of its frame is its base, and the frame bears no more than its jitter
unfoldable pub ends : ℕ → ℕ → ℕ → List ℕ → List ℕ → List ℕ → List ℕ → Ended
ends φ d j cs ls ks bs =
    let k = get_or ks j 0 in
    let o = over φ 0 (take k cs) in
    record { limits = set ls k (min (o + d) (get_or ls k 0)); bases = set bs j o }

-- so the flow f; one of another interval than i stays as it is
unfoldable pub stamp : ℕ → ℕ → ℕ → List ℕ → List ℕ → List ℕ → List ℕ → Flow → Ended
stamp φ i j cs ls ks bs f =
    elim (eqb f.interval i) [
      | true ↦ ends φ f.jitter j cs ls ks bs
      | false ↦ record { limits = ls; bases = bs }
    ]

-- the flows of interval i, from the one with the index j
unfoldable pub end_cells : ℕ → ℕ → ℕ → List ℕ → List ℕ → List ℕ → List ℕ → List Flow → Ended
end_cells φ i j cs ls ks bs [] = record { limits = ls; bases = bs }
end_cells φ i j cs ls ks bs (f ∷ fs) = let t = stamp φ i j cs ls ks bs f in end_cells φ i (suc j) cs t.limits ks t.bases fs

-- an entry in front, if b
unfoldable pub keep : {A : Type 0} → Bool → A → List A → List A
keep true x xs = x ∷ xs
keep false x xs = xs

-- a flow has the interval i and the frame m
unfoldable pub stands : ℕ → ℕ → Flow → ℕ → Bool
stands i m f k = eqb f.interval i && eqb k m

-- the flows of interval i that have the frame m; the first has the index j
unfoldable pub members : ℕ → ℕ → ℕ → List Flow → List ℕ → List Flow
members i m j [] ks = []
members i m j (f ∷ fs) ks = keep (stands i m f (get_or ks j 0)) f (members i m (suc j) fs ks)

-- and their grants
unfoldable pub granted : ℕ → ℕ → ℕ → List Flow → List ℕ → List ℕ → List Settled
granted i m j [] ks bs = []
granted i m j (f ∷ fs) ks bs = keep (stands i m f (get_or ks j 0)) (record { flow = f; base = get_or bs j 0 }) (granted i m (suc j) fs ks bs)

-- the grants of frame m, group by group: a flow of interval i stands in each frame m with m % (i / φ) its own
unfoldable pub standing : ℕ → List Flow → List ℕ → List ℕ → List ℕ → ℕ → List Settled
standing φ fs ks bs [] m = []
standing φ fs ks bs (i ∷ is) m = granted i (m % (i / φ)) 0 fs ks bs ++ standing φ fs ks bs is m
