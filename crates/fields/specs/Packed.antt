-- Packed numbers, most significant bit first: values of given widths joined into one number, and a number split into values.
-- A byte is a value of width 8, so the bytes of a record are split and joined by the same two definitions as its fields.
-- Assumes nothing.
use Rattle.std.specs.Prelude.{ℕ, zero, suc, ◌+◌, ◌*◌, ◌/◌, ◌%◌, ◌^◌, ◌≤◌, ◌<◌, List, [], ◌∷◌, Bool, true, false, ◌&&◌, ltb, get_or}

-- the bits of a list of widths
unfoldable pub total : List ℕ → ℕ
total [] = 0
total (w ∷ ws) = total ws + w

-- the number that n makes with values behind it, each in as many bits as its width says
unfoldable pub join_from : ℕ → List ℕ → List ℕ → ℕ
join_from n [] vs = n
join_from n (w ∷ ws) [] = n
join_from n (w ∷ ws) (v ∷ vs) = join_from (n * 2 ^ w + v) ws vs

-- the number that values of these widths make
unfoldable pub join : List ℕ → List ℕ → ℕ
unfolding join_from
join ws vs = join_from 0 ws vs

-- the values of these widths in n: each is what stands before the bits that follow it
unfoldable pub split : List ℕ → ℕ → List ℕ
unfolding total
split [] n = []
split (w ∷ ws) n = n / 2 ^ total ws % 2 ^ w ∷ split ws n

-- the widths of k bytes
unfoldable pub eights : ℕ → List ℕ
eights zero = []
eights (suc k) = 8 ∷ eights k

-- the k bytes of a record with these widths and values
unfoldable pub pack : List ℕ → ℕ → List ℕ → List ℕ
unfolding eights total join join_from split
pack ws k vs = split (eights k) (join ws vs)

-- the values of a record with these widths and k bytes
unfoldable pub unpack : List ℕ → ℕ → List ℕ → List ℕ
unfolding eights total join join_from split
unpack ws k bs = split ws (join (eights k) bs)

-- there are as many values as widths, and each fits its width
abbrev pub Fit : List ℕ → List ℕ → Type 0
Fit [] [] = Unit {0}
Fit [] (v ∷ vs) = ⊥
Fit (w ∷ ws) [] = ⊥
Fit (w ∷ ws) (v ∷ vs) = (v < 2 ^ w) × Fit ws vs

-- the same as a test
unfoldable pub fits : List ℕ → List ℕ → Bool
fits [] [] = true
fits [] (v ∷ vs) = false
fits (w ∷ ws) [] = false
fits (w ∷ ws) (v ∷ vs) = ltb v (2 ^ w) && fits ws vs

-- widths of at most 16 bits each and 64 together, which is what the code's numbers hold
pub record Narrow (ws : List ℕ) : Type 0 where
  pub each : (k : ℕ) → get_or ws k 0 ≤ 16
  pub whole : total ws ≤ 64
