-- Document 02, L1: "find the smallest offset from 0 to interval less one at which the flow fits at every one of its grants without
-- moving anyone, all with late 0". Assumes nothing.
use Rattle.std.specs.Prelude.{Option, None, Some, Bool, true, false, cond, ◌&&◌, ◌||◌, List, [], ◌∷◌, ℕ, zero, suc, ◌+◌, leb, ltb, eqb}
use Rattle.logic.specs.Lists.{every}
use Rattle.flows.specs.declared.flow.Flow.{Flow}
use Rattle.lists.specs.Facts.{occupies, cycle, grants_of}
use Rattle.tables.specs.declared.packed.Grant.{Grant}
use Rattle.law.specs.Check.{slots}

-- n grants of a flow, the first at slot x and each an interval after the one before, all with late 0
unfoldable pub grants_from : Flow → ℕ → ℕ → List Grant
grants_from f x zero = []
grants_from f x (suc n) = record { flow = f.number; start = x; late = 0 } ∷ grants_from f (x + f.interval) n

-- the new flow's grants in a cycle of c slots, for the offset o
unfoldable pub new_grants : ℕ → Flow → ℕ → List Grant
new_grants c f o = grants_from f o (grants_of c f)

-- a new grant n and a grant g of the table share no slot: one ends where the other starts, or earlier
unfoldable pub apart : List Flow → Flow → Grant → Grant → Bool
apart fs f n g = leb (n.start + occupies f) g.start || leb (g.start + slots fs g) n.start

-- the new grant shares no slot with any grant of the table and ends inside the cycle
unfoldable pub free : List Flow → List Grant → Flow → Grant → Bool
free fs gs f n = every (apart fs f n) gs && leb (n.start + occupies f) (cycle fs)

-- "the flow fits at every one of its grants"
unfoldable pub fits : List Flow → List Grant → Flow → ℕ → Bool
fits fs gs f o = every (free fs gs f) (new_grants (cycle fs) f o)

-- the smallest of n numbers from o on that passes, if one does
unfoldable pub smallest : (ℕ → Bool) → ℕ → ℕ → Option ℕ
smallest ok o zero = None
smallest ok o (suc n) = cond (ok o) (Some o) (smallest ok (suc o) n)

-- "the smallest offset from 0 to interval less one at which the flow fits"
unfoldable pub offset : List Flow → List Grant → Flow → Option ℕ
offset fs gs f = smallest (fits fs gs f) 0 f.interval

-- a grant put among others, in the order of their starts
unfoldable pub insert : Grant → List Grant → List Grant
insert n [] = n ∷ []
insert n (g ∷ gs) = cond (ltb g.start n.start) (g ∷ insert n gs) (n ∷ g ∷ gs)

-- new grants put among the old ones
unfoldable pub joined : List Grant → List Grant → List Grant
joined [] gs = gs
joined (n ∷ ns) gs = insert n (joined ns gs)

-- the grants of every other flow, in table order
unfoldable pub others : ℕ → List Grant → List Grant
others x [] = []
others x (g ∷ gs) = elim (eqb g.flow x) [ true ↦ others x gs | false ↦ g ∷ others x gs ]
