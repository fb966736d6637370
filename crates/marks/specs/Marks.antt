-- A set of small numbers as bytes: which are marked, and what marking some more changes. Assumes nothing.
use Rattle.std.specs.Prelude.{◌≡◌, Bool, List, ℕ, ◌+◌, ◌/◌, ◌%◌, ◌^◌, ◌≤◌, ◌<◌, eqb, length, get_or}

-- the bit of the number x, eight to a byte
abbrev pub bit : List ℕ → ℕ → ℕ
bit bs x = get_or bs (x / 8) 0 / 2 ^ (x % 8) % 2

-- the number x is marked
abbrev pub marked : List ℕ → ℕ → Bool
marked bs x = eqb (bit bs x) 1

-- the r numbers from x on are marked or not as x is
pub record Alike (bs : List ℕ) (x r : ℕ) : Type 0 where
  pub some : 0 < r
  pub few : r ≤ 8
  pub same : (y : ℕ) → x ≤ y → y < x + r → bit bs y ≡ bit bs x

-- the r numbers from x on are marked in ys, if the byte of x is there, and all others are as in xs
pub record Marks (xs : List ℕ) (x r : ℕ) (ys : List ℕ) : Type 0 where
  pub all : x / 8 < length xs → (y : ℕ) → x ≤ y → y < x + r → bit ys y ≡ 1
  pub rest : (y : ℕ) → ((x ≤ y) × (y < x + r) → ⊥) → bit ys y ≡ bit xs y
  pub beyond : length xs ≤ x / 8 → ys ≡ xs
