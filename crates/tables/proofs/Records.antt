-- A record of a table, read and written at its place. Assumes nothing.
use mathlib.Core.Path.{◌≡◌, refl, sym, ap, ◌∙◌}
use mathlib.Core.List.{List, [], ◌∷◌, ◌++◌}
use Prim.Native.Nat.{ℕ, zero, suc, ◌+◌, ◌-◌, ◌*◌, ◌/◌, ◌≤◌, ◌<◌}
use native.Mathlib.Omega.{arith}
use lib.ListN.{length, get_or, take, drop, replicate, length-drop}
use lib.Seq.{length-take-le, take-take, drop-drop}
use Rattle.std.specs.Simd.{first_chunks}
use borrow.Author.Tests.{le-leb}
use Rattle.logic.proofs.Tests.{by_lt}
use Rattle.logic.proofs.Parts.{part_to_end}
use Rattle.logic.proofs.Indices.{length_from, entry_is}
use Rattle.fields.specs.declared.kind.Kind.TheVariants.{TableHead, TableRecord}
use Rattle.std.proofs.Common.{Result, Err}
use Rattle.fields.specs.declared.record.Misfit.{Misfit}
use Rattle.fields.specs.declared.record.Misfit.TheVariants.{Short}
use Rattle.fields.specs.Packed.{Fit}
use Rattle.fields.specs.Records.{values_of, stored, room_after}
use Rattle.fields.proofs.Records.{values_short, values_fit}
use Rattle.fields.proofs.Places.{ends_beyond, ends_part}
use Rattle.tables.specs.declared.packed.Grant.{Grant}
use Rattle.tables.specs.Tables.{head_of, count, place, values_at, grant_at, grants_from, grants_of, fields_of, record_stored, record_after}

-- ---- reading

second : (vs : List ℕ) → Fit (10 ∷ 12 ∷ 12 ∷ 6 ∷ 0 ∷ 0 ∷ []) vs → get_or vs 1 0 < 4096
second [] f = elim f [ ]
second (a ∷ []) f = absurd f.1
second (a ∷ b ∷ vs) f = f.1.0

-- a record that is not there has zeros
pub values_beyond : (t : List ℕ) (i : ℕ) → length t < place i + 5 → replicate 6 0 ≡ values_at t i
unfolding values_at
values_beyond t i h = sym (values_short TableRecord (drop (place i) t) (simp length-drop (omega arith)))

-- and where it is there, its n bytes, which are five, tell its values
pub values_there : (t : List ℕ) (i n : ℕ) → place i + 5 ≤ length t → n ≡ 5 → values_of TableRecord (take n (drop (place i) t)) ≡ values_at t i
unfolding values_at values_of
values_there t i n h e =
    let s = drop (place i) t in
    let l : 5 ≤ length s = simp length-drop (omega arith) in
    rw (e, length-take-le 5 s l, take-take 5 5 s (omega arith), le-leb 5 (length s) l)

length_chunks : (n k : ℕ) (xs : List ℕ) → length (first_chunks n k xs) ≡ k
length_chunks n zero xs = refl
length_chunks n (suc k) xs = ap (λ (j : ℕ). suc j) (length_chunks n k (drop n xs))

-- one of k chunks of n bytes
chunk : (n k : ℕ) (xs : List ℕ) (i : ℕ) → i < k → get_or (first_chunks n k xs) i [] ≡ take n (drop (n * i) xs)
chunk n zero xs i h = absurd (omega arith)
chunk n (suc k) xs zero h = let z : n * 0 ≡ 0 = omega arith in rw z
chunk n (suc k) xs (suc i) h =
    let e : n + n * i ≡ n * suc i = omega arith in
    chunk n k (drop n xs) i (omega arith) ∙ ap (take n) (drop-drop (n * i) n xs ∙ ap (λ (p : ℕ). drop p xs) e)

-- the bytes behind the head of a table of n records are cut into its records: what is read of one, as the calls give it
module _ (t : List ℕ) (n : ℕ) (l : length t ≡ place n) (cut : List (List ℕ))
    (e : cut ≡ first_chunks 5 (length (take (length t - 8) (drop 8 t)) / 5) (take (length t - 8) (drop 8 t))) where
  cut_is : cut ≡ first_chunks 5 n (drop 8 t)
  cut_is =
      let e' = rw part_to_end at e in
      let k : length (drop 8 t) / 5 ≡ n = omega (arith, l, length-drop 8 t) in
      rw k at e'

  pub length_cut : length cut ≡ n
  length_cut = ap length cut_is ∙ length_chunks 5 n (drop 8 t)

  pub record_is : (i : ℕ) (vs : List ℕ) → i < n → vs ≡ values_of TableRecord (get_or cut i []) → vs ≡ values_at t i
  record_is i vs h v =
      let p : 8 + 5 * i ≡ place i = omega arith in
      v
      ∙ ap (λ (x : List (List ℕ)). values_of TableRecord (get_or x i [])) cut_is
      ∙ ap (values_of TableRecord) (chunk 5 n (drop 8 t) i h ∙ ap (take 5) (drop-drop (5 * i) 8 t ∙ ap (λ (q : ℕ). drop q t) p))
      ∙ values_there t i 5 (omega (arith, l)) refl

-- a record's start is below 4,096
pub start_small : (t : List ℕ) (i : ℕ) (vs : List ℕ) → vs ≡ values_at t i → get_or vs 1 0 < 4096
unfolding values_at
start_small t i vs e =
    let s = drop (place i) t in
    rw e (by_lt (length s) 5 (λ h. rw (values_short TableRecord s h) (omega arith)) (λ h. second (values_of TableRecord s) (values_fit TableRecord s h)))

-- ---- the count

fourth : (vs : List ℕ) → Fit (4 ∷ 4 ∷ 8 ∷ 16 ∷ 16 ∷ 16 ∷ []) vs → get_or vs 3 0 < 65536
fourth [] f = elim f [ ]
fourth (a ∷ []) f = absurd f.1
fourth (a ∷ b ∷ []) f = absurd f.1.1
fourth (a ∷ b ∷ c ∷ []) f = absurd f.1.1.1
fourth (a ∷ b ∷ c ∷ d ∷ vs) f = f.1.1.1.0

-- a head says at most 65,535 records
pub count_small : (t : List ℕ) → count t < 65536
unfolding count head_of
count_small t = by_lt (length t) 8 (λ h. rw (values_short TableHead t h) (omega arith)) (λ h. fourth (values_of TableHead t) (values_fit TableHead t h))

-- ---- the grants of a table

pub length-grants : (t : List ℕ) → length (grants_of t) ≡ count t
unfolding grants_from grants_of
length-grants t = length_from (grant_at t) (grants_from t) (λ i. refl) (λ i n. refl) 0 (count t)

-- what the code reads at record i is grant i, whichever grant d stands for those that the table has not
pub grant_is : (t : List ℕ) (d : Grant) (i : ℕ) (g : Grant) → i < count t → g ≡ grant_at t i → g ≡ get_or (grants_of t) i d
unfolding grants_from grants_of
grant_is t d = entry_is (grant_at t) (grants_from t) (λ i. refl) (λ i n. refl) d (count t)

-- ---- writing

module _ (g : Grant) (i : ℕ) (room : List ℕ) where
  pub record_beyond : length room < place i + 5 → (Err Short ≡ record_stored g i (length room)) × (room ≡ record_after g i room)
  unfolding record_stored record_after
  record_beyond h = ends_beyond TableRecord (place i) (fields_of g) room (omega arith)

  pub record_part : place i + 5 ≤ length room → (n : ℕ) → n ≡ 5 → (a : Result Unit Misfit) (ys : List ℕ) → let part = take n (drop (place i) room) in
      a ≡ stored TableRecord (fields_of g) (length part) → ys ≡ room_after TableRecord (fields_of g) part
      → (a ≡ record_stored g i (length room)) × (take (place i) room ++ (ys ++ drop n (drop (place i) room)) ≡ record_after g i room)
  unfolding record_stored record_after
  record_part = ends_part TableRecord (place i) (fields_of g) room
