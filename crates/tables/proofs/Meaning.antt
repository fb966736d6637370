-- A table of grants is read back as those grants, and a well-formed table is the table of its grants. Assumes nothing.
use mathlib.Core.Path.{◌≡◌, refl, sym, ap, ap₂, ◌∙◌}
use mathlib.Core.Bool.{true}
use mathlib.Core.List.{List, [], ◌∷◌, ◌++◌}
use Prim.Native.Nat.{ℕ, zero, suc, ◌+◌, ◌-◌, ◌*◌, ◌≤◌, ◌<◌}
use native.Mathlib.Omega.{arith}
use lib.Dec.{eqb, lit<}
use lib.ListN.{length, get_or, take, drop, length-append, length-drop, take-append-drop}
use lib.Seq.{drop_at, drop-drop, get_or-drop}
use borrow.Author.Tests.{eqb-true}
use Rattle.logic.specs.Lists.{All}
use Rattle.logic.proofs.Tests.{and_both}
use Rattle.fields.specs.declared.kind.Kind.TheVariants.{TableHead, TableRecord}
use Rattle.fields.specs.Packed.{Fit}
use Rattle.fields.specs.Kinds.{widths}
use Rattle.fields.specs.Records.{packed, values_of}
use Rattle.fields.proofs.Packed.{fit_length, six_values}
use Rattle.fields.proofs.Records.{length-packed, values-packed, values_fit, packed_front}
use Rattle.fields.proofs.Packed.{four-values}
use Rattle.fields.proofs.Runs.{run, entries, Again, length_run, drop-run, take-run, entries-run, run-entries}
use Rattle.tables.specs.declared.packed.Grant.{Grant}
use Rattle.tables.specs.Tables.{head_fields, head, head_of, count, cycle_of, frame_of, place, values_at, grant_with, grant_at, spare_at, grants_from, grants_of, fields_of, records, table_of}
use Rattle.tables.specs.Form.{headed, spared, formed}
use Rattle.tables.proofs.Forms.{Formed, headed_is, is_formed, formed_is}
use Rattle.tables.proofs.Records.{length-grants}

-- ---- records, one behind the other

-- the bytes of a grant's record
abbrev pub written : Grant → List ℕ
written g = packed TableRecord (fields_of g)

-- the grant whose record stands at the front of the bytes
abbrev pub grant_of : List ℕ → Grant
grant_of bs = grant_with (values_of TableRecord bs)

pub length-written : (g : Grant) → length (written g) ≡ 5
length-written g = length-packed TableRecord (fields_of g)

pub records-run : (gs : List Grant) → records gs ≡ run written gs
unfolding records
records-run [] = refl
records-run (g ∷ gs) = ap (λ (s : List ℕ). written g ++ s) (records-run gs)

-- the next record stands 5 bytes on
next_place : (t : List ℕ) (i : ℕ) → drop 5 (drop (place i) t) ≡ drop (place (suc i)) t
next_place t i = let e : place i + 5 ≡ place (suc i) = omega arith in drop-drop 5 (place i) t ∙ ap (λ (p : ℕ). drop p t) e

pub grants-entries : (t : List ℕ) (i n : ℕ) → grants_from t i n ≡ entries 5 grant_of n (drop (place i) t)
unfolding grants_from grant_at values_at
grants-entries t i zero = refl
grants-entries t i (suc n) =
    ap (λ (gs : List Grant). grant_of (drop (place i) t) ∷ gs) (grants-entries t (suc i) n ∙ ap (entries 5 grant_of n) (sym (next_place t i)))

-- ---- a table of grants

-- a grant whose fields fit its record
pub record Fits (g : Grant) : Type 0 where
  pub flow_lt : g.flow < 1024
  pub start_lt : g.start < 4096
  pub late_lt : g.late < 4096

fit : (g : Grant) → Fits g → Fit (widths TableRecord) (fields_of g)
fit g f = (f.flow_lt, (f.start_lt, (f.late_lt, (lit< tt, (lit< tt, (lit< tt, tt))))))

read_back : (g : Grant) → Fits g → (rest : List ℕ) → values_of TableRecord (written g ++ rest) ≡ fields_of g
read_back g f rest = values-packed TableRecord (fields_of g) rest (fit g f)

all-read_back : (gs : List Grant) → All Fits gs → All (λ g. (rest : List ℕ) → grant_of (written g ++ rest) ≡ g) gs
all-read_back [] h = tt
all-read_back (g ∷ gs) h = (λ rest. ap grant_with (read_back g h.0 rest), all-read_back gs h.1)

spared-records : (t : List ℕ) (i : ℕ) (gs : List Grant) → All Fits gs → drop (place i) t ≡ run written gs → spared t i (length gs) ≡ true
unfolding spared spare_at values_at
spared-records t i [] h e = refl
spared-records t i (g ∷ gs) h e =
    let values : values_of TableRecord (drop (place i) t) ≡ fields_of g = ap (values_of TableRecord) e ∙ read_back g h.0 (run written gs) in
    let next : drop (place (suc i)) t ≡ run written gs =
    sym (next_place t i) ∙ ap (λ (s : List ℕ). drop 5 s) e ∙ drop_at (written g) (run written gs) 5 (length-written g) in
    rw values (spared-records t (suc i) gs h.1 next)

-- what a packed table can hold: 1 to 1,024 grants whose fields fit, and a cycle and a frame of 16 bits
pub record Holds (c φ : ℕ) (gs : List Grant) : Type 0 where
  pub filled : 1 ≤ length gs
  pub few : length gs ≤ 1024
  pub fits : All Fits gs
  pub cycle_lt : c < 65536
  pub frame_lt : φ < 65536

module _ (c φ : ℕ) (gs : List Grant) where
  length-head : length (head (length gs) c φ) ≡ 8
  unfolding head
  length-head = length-packed TableHead (head_fields (length gs) c φ)

  records-behind : drop 8 (table_of c φ gs) ≡ run written gs
  unfolding table_of
  records-behind = drop_at (head (length gs) c φ) (records gs) 8 length-head ∙ records-run gs

  pub length-table : length (table_of c φ gs) ≡ 8 + 5 * length gs
  unfolding table_of
  length-table =
      length-append (head (length gs) c φ) (records gs)
      ∙ ap₂ (λ (a b : ℕ). a + b) length-head (ap length (records-run gs) ∙ length_run 5 written length-written gs)

  module _ (h : Holds c φ gs) where
    head-table : head_of (table_of c φ gs) ≡ head_fields (length gs) c φ
    unfolding head_of table_of head
    head-table =
        values-packed TableHead (head_fields (length gs) c φ) (records gs)
        (lit< tt, (lit< tt, (lit< tt, (omega (arith, h.few), (h.cycle_lt, (h.frame_lt, tt))))))

    pub count-table : count (table_of c φ gs) ≡ length gs
    unfolding count
    count-table = rw head-table

    pub cycle-table : cycle_of (table_of c φ gs) ≡ c
    unfolding cycle_of
    cycle-table = rw head-table

    pub frame-table : frame_of (table_of c φ gs) ≡ φ
    unfolding frame_of
    frame-table = rw head-table

    pub grants-table : grants_of (table_of c φ gs) ≡ gs
    unfolding grants_of
    grants-table =
        ap (grants_from (table_of c φ gs) 0) count-table
        ∙ grants-entries (table_of c φ gs) 0 (length gs)
        ∙ ap (entries 5 grant_of (length gs)) records-behind
        ∙ entries-run 5 written length-written grant_of gs (all-read_back gs h.fits)

    pub formed-table : formed (table_of c φ gs) ≡ true
    unfolding headed
    formed-table =
        is_formed (table_of c φ gs)
        record {
          all =
              record {
                long = omega (arith, length-table);
                head = rw head-table;
                counted = omega (arith, count-table, h.filled);
                count_le = omega (arith, count-table, h.few);
                exact = omega (arith, length-table, count-table);
              };
          zeros = ap (spared (table_of c φ gs) 0) count-table ∙ spared-records (table_of c φ gs) 0 gs h.fits records-behind;
        }

-- ---- a well-formed table

module _ (t : List ℕ) (b : (i : ℕ) → get_or t i 0 < 256) where
  bytes-from : (n i : ℕ) → get_or (drop n t) i 0 < 256
  bytes-from n i = rw (get_or-drop n t i 0) (b (n + i))

  -- a record without spare bits is written again as it was read
  again : (i n : ℕ) → place i + 5 * n ≤ length t → spared t i n ≡ true → Again 5 written grant_of n (drop (place i) t)
  unfolding spared spare_at values_at
  again i zero l h = tt
  again i (suc n) l h =
      let s = drop (place i) t in
      let vs = values_of TableRecord s in
      let whole : 5 ≤ length s = simp length-drop (omega arith) in
      let both = and_both (eqb (get_or vs 3 0) 0) (spared t (suc i) n) h in
      let spare : get_or vs 3 0 ≡ 0 = eqb-true (get_or vs 3 0) 0 both.0 in
      let fields : fields_of (grant_with vs) ≡ vs = rw spare at (four-values 10 12 12 6 vs (values_fit TableRecord s whole)) in
      (ap (packed TableRecord) fields ∙ packed_front TableRecord s whole (bytes-from (place i)), rw (next_place t i) (again (suc i) n (omega arith) both.1))

  module _ (e : formed t ≡ true) where
    form : Formed t
    form = formed_is t e

    head_fields_lem : head_fields (count t) (cycle_of t) (frame_of t) ≡ head_of t
    unfolding count cycle_of frame_of head_of
    head_fields_lem =
        let is = headed_is t form.all.head in
        rw (is.0, is.1, is.2) at (six_values (head_of t) (sym (fit_length (widths TableHead) (head_of t) (values_fit TableHead t form.all.long))))

    head_again : head (length (grants_of t)) (cycle_of t) (frame_of t) ≡ take 8 t
    unfolding head head_of
    head_again = rw (length-grants t, head_fields_lem) (packed_front TableHead t form.all.long b)

    pub records_again : records (grants_of t) ≡ drop 8 t
    unfolding grants_of
    records_again =
        records-run (grants_of t)
        ∙ ap (run written) (grants-entries t 0 (count t))
        ∙ run-entries 5 written length-written grant_of (count t) (drop 8 t) (simp length-drop (omega (arith, form.all.exact))) (again 0 (count t) (omega (arith, form.all.exact)) form.zeros)

    -- the bytes from record i up to record j are the records of those grants
    pub records_part : (i j : ℕ) → take (place j - place i) (drop (place i) t) ≡ records (take (j - i) (drop i (grants_of t)))
    records_part i j =
        let gs = grants_of t in
        let behind : drop 8 t ≡ run written gs = sym records_again ∙ records-run gs in
        let start : drop (place i) t ≡ run written (drop i gs) =
        sym (drop-drop (5 * i) 8 t) ∙ ap (λ (s : List ℕ). drop (5 * i) s) behind ∙ drop-run 5 written length-written i gs in
        let size : place j - place i ≡ 5 * (j - i) = omega arith in
        rw (start, size, take-run 5 written length-written (j - i) (drop i gs)) (sym (records-run (take (j - i) (drop i gs))))

    pub table-grants : table_of (cycle_of t) (frame_of t) (grants_of t) ≡ t
    unfolding table_of
    table-grants = ap₂ (λ (x y : List ℕ). x ++ y) head_again records_again ∙ take-append-drop 8 t
