-- Document 02, L2: "the published specification's type, length, value form": what a run of bytes says. Assumes nothing.
use Rattle.std.specs.Prelude.{Bool, true, false, cond, List, [], ◌∷◌, ◌++◌, ℕ, zero, suc, leb, length, take, drop}

-- an item of a run: its type and its value; or that it is broken, because fewer than two bytes are left for type and length, or
-- its length goes past the end of what holds it
pub data Item : Type 0 where
  holds : (type : ℕ) (value : List ℕ) → Item
  broken : Item

-- the first n items of a run: a byte for the type, a byte for the length, and as many bytes as it says for the value; behind a
-- broken item nothing is read
unfoldable pub first_items : ℕ → List ℕ → List Item
first_items zero s = []
first_items (suc n) [] = []
first_items (suc n) (type ∷ []) = broken ∷ []
first_items (suc n) (type ∷ size ∷ s) =
    let r = first_items n (drop size s) in
    cond (leb size (length s)) (holds type (take size s) ∷ r) (broken ∷ [])

-- all items of a run, which are no more than its bytes
unfoldable pub items : List ℕ → List Item
items s = first_items (length s) s

-- the item is not broken
abbrev pub whole : Item → Bool
whole (holds type value) = true
whole broken = false

-- the bytes of items: the run that says them; a broken item has none
unfoldable pub encoded : List Item → List ℕ
encoded [] = []
encoded (holds type value ∷ is) = type ∷ length value ∷ (value ++ encoded is)
encoded (broken ∷ is) = encoded is
