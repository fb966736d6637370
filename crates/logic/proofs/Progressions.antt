-- Numbers at equal steps. Assumes nothing.
use mathlib.Core.Path.{◌≡◌, refl, ap}
use mathlib.Core.List.{List, [], ◌∷◌, ◌++◌, map}
use Prim.Native.Nat.{ℕ, zero, suc, ◌+◌, ◌*◌, ◌<◌}
use native.Mathlib.Omega.{arith}
use lib.ListN.{length, get_or}

-- n numbers from t on, each i above the one before
unfoldable pub progression : ℕ → ℕ → ℕ → List ℕ
progression t i zero = []
progression t i (suc n) = t ∷ progression (t + i) i n

pub progression-length : (t i n : ℕ) → length (progression t i n) ≡ n
unfolding progression
progression-length t i zero = refl
progression-length t i (suc n) = ap suc (progression-length (t + i) i n)

pub progression-at : (t i n k d : ℕ) → k < n → get_or (progression t i n) k d ≡ t + k * i
unfolding progression
progression-at t i zero k d h = absurd (omega arith)
progression-at t i (suc n) zero d h = omega arith
progression-at t i (suc n) (suc k) d h = omega (arith, progression-at (t + i) i n k d (omega arith))

-- numbers all d higher
abbrev pub later : ℕ → List ℕ → List ℕ
later d ts = map (λ t. t + d) ts

pub progression-later : (d t i n : ℕ) → later d (progression t i n) ≡ progression (t + d) i n
unfolding progression
progression-later d t i zero = refl
progression-later d t i (suc n) =
    let e : t + d + i ≡ t + i + d = omega arith in
    rw e (ap (λ (l : List ℕ). (t + d) ∷ l) (progression-later d (t + i) i n))

pub progression-append : (t i n m : ℕ) → progression t i n ++ progression (t + n * i) i m ≡ progression t i (n + m)
unfolding progression
progression-append t i zero m =
    let e : t + 0 * i ≡ t = omega arith in
    let k : 0 + m ≡ m = omega arith in
    rw (e, k)
progression-append t i (suc n) m =
    let e : t + suc n * i ≡ t + i + n * i = omega arith in
    let k : suc n + m ≡ suc (n + m) = omega arith in
    rw (e, k) (ap (λ (l : List ℕ). t ∷ l) (progression-append (t + i) i n m))
