-- Document 01: "The window hands back the records with a ≤ start < b as a stretch of the caller's own table". Assumes nothing.
use Rattle.std.specs.Prelude.{◌≡◌, ◌&&◌, cond, List, [], ◌∷◌, ℕ, suc, ◌+◌, ◌-◌, leb, ltb, take, drop, Result, Ok, Err}
use Rattle.std.specs.Borrow.{Bor}
use Rattle.windows.specs.declared.stretch.Edges.{Edges}
use Rattle.refusals.specs.declared.Refusal.{Refusal}
use Rattle.refusals.specs.declared.Refusal.TheVariants.{WindowEnds}
use Rattle.refusals.specs.Results.{Checked, Passed}
use Rattle.refusals.specs.Tests.{◌⟫◌, unless}
use Rattle.tables.specs.declared.packed.Grant.{Grant}
use Rattle.tables.specs.Tables.{cycle_of, place, grants_of}
use Rattle.tables.specs.Form.{form_tests}

-- 19: window ends not 0 ≤ a ≤ b ≤ cycle
unfoldable pub test19 : List ℕ → ℕ → ℕ → Checked
test19 t a b = unless (leb a b && leb b (cycle_of t)) WindowEnds

-- tests 11, 12 and 19, in their order
unfoldable pub window_tests : List ℕ → ℕ → ℕ → Checked
window_tests t a b = form_tests t ⟫ test19 t a b

-- how many grants stand before the first that starts at a or later
unfoldable pub before : ℕ → List Grant → ℕ
before a [] = 0
before a (g ∷ gs) = let rest = suc (before a gs) in cond (ltb g.start a) rest 0

-- the grants with a ≤ start < b, in their order
unfoldable pub starting_in : ℕ → ℕ → List Grant → List Grant
starting_in a b [] = []
starting_in a b (g ∷ gs) = let rest = starting_in a b gs in cond (leb a g.start && ltb g.start b) (g ∷ rest) rest

-- where the stretch of an end stands in the table, in bytes: before the first record with start ≥ a, or at the end of the table;
-- on a refusal at the table's front
unfoldable pub edge : Checked → List ℕ → ℕ → ℕ
edge (Ok tt) t a = place (before a (grants_of t))
edge (Err r) t a = 0

-- both edges, or the refusal
abbrev pub edges_if : Checked → List ℕ → ℕ → ℕ → Result Edges Refusal
edges_if (Ok tt) t a b = Ok (record { start = edge Passed t a; end = edge Passed t b })
edges_if (Err r) t a b = Err r

-- the edges of a window
unfoldable pub edges_of : List ℕ → ℕ → ℕ → Result Edges Refusal
edges_of t a b = edges_if (window_tests t a b) t a b

-- r is the part of s from byte i up to byte e: those bytes, and where they stand in the caller's own memory
pub record Stretch (s r : Bor (List ℕ)) (i e : ℕ) : Type 0 where
  pub elements : r.now ≡ take (e - i) (drop i s.now)
  pub block : r.ref_ptr.0 ≡ s.ref_ptr.0
  pub byte : r.ref_ptr.1 ≡ i + s.ref_ptr.1
