-- Old and new grants written one after another, in the order of their starts: the old ones run by run, as bytes. Assumes nothing.
use Rattle.std.proofs.Common.{◌≡◌, refl, sym, ap, subst, ◌∙◌, true, List, [], ◌∷◌, ◌++◌, ℕ, zero, suc, ◌+◌, ◌-◌, ◌*◌, ◌≤◌, ◌<◌, min, arith, length, get_or, take, drop, length-take, length-drop, take-append-drop, length-take-le, take_all, get_or-take, get_or-drop, drop-drop}
use lib.Seq.{sets}
use Rattle.logic.specs.Lists.{All}
use Rattle.logic.proofs.Members.{all_get_d, get_d_all, all_imp}
use Rattle.flows.specs.declared.flow.Flow.{Flow}
use Rattle.tables.specs.declared.packed.Grant.{Grant}
use Rattle.tables.specs.Tables.{count, place, grants_of as grants_in, record_after, records_after}
use Rattle.tables.specs.Form.{formed}
use Rattle.tables.proofs.Records.{length-grants}
use Rattle.tables.proofs.Meaning.{Fits, records_part}
use Rattle.tables.proofs.Writing.{records-append, records-written}
use Rattle.law.specs.Law.{blank, Rising}
use Rattle.offsets.specs.Offsets.{grants_from, joined}
use Rattle.offsets.proofs.Joining.{joined-old, joined-new, from-after}
use Rattle.adding.specs.Parts.{new_grant}

-- the grants behind the first i, whose starts rise from the first on
rising-from : (x : ℕ) (gs : List Grant) (i : ℕ) → Rising gs → (i < length gs → x ≤ (get_or gs i blank).start) → All (λ g. x ≤ g.start) (drop i gs)
rising-from x [] zero r h = tt
rising-from x [] (suc i) r h = tt
rising-from x (g ∷ []) zero r h = (h (omega arith), tt)
rising-from x (g ∷ q ∷ gs) zero r h = (h (omega arith), rising-from x (q ∷ gs) zero r.1 (λ _. omega (arith, h (omega arith), r.0)))
rising-from x (g ∷ []) (suc i) r h = rising-from x [] i tt (λ j. absurd (omega arith))
rising-from x (g ∷ q ∷ gs) (suc i) r h = rising-from x (q ∷ gs) i r.1 (λ j. h (omega arith))

-- n grants from grant i on, each of which has a property
all_part : (P : Grant → Type 0) (i n : ℕ) (gs : List Grant) → ((p : ℕ) → i ≤ p → p < i + n → p < length gs → P (get_or gs p blank)) → All P (take n (drop i gs))
all_part P i n gs h =
    get_d_all P blank (take n (drop i gs))
    (λ p l.
    let m : p < min n (length gs - i) = omega (arith, length-take n (drop i gs), length-drop i gs) in
    subst P (sym (get_or-take n (drop i gs) p blank (omega arith) ∙ get_or-drop i gs p blank)) (h (i + p) (omega arith) (omega arith) (omega arith)))

-- old grants that start before x come before the new ones, which do not
joined-olds : (x : ℕ) (ns hs gs : List Grant) → All (λ n. x ≤ n.start) ns → All (λ g. g.start < x) hs → joined ns (hs ++ gs) ≡ hs ++ joined ns gs
joined-olds x ns [] gs a b = refl
joined-olds x ns (h ∷ hs) gs a b =
    joined-old ns h (hs ++ gs) (all_imp (λ n. x ≤ n.start) (λ n. h.start < n.start) ns (λ n l. omega (arith, b.0)) a)
    ∙ ap (λ (rs : List Grant). h ∷ rs) (joined-olds x ns hs gs a b.1)

-- of the old grants gs and m new ones of f from slot o on, i and k are written
pub record Merging (gs : List Grant) (f : Flow) (o m : ℕ) (room₀ : List ℕ) (i k : ℕ) (room : List ℕ) : Type 0 where
  pub old : i ≤ length gs
  pub new : k ≤ m
  pub rest : records_after (i + k) (joined (grants_from f (o + k * f.interval) (m - k)) (drop i gs)) room ≡ records_after 0 (joined (grants_from f o m) gs) room₀

module _ (gs : List Grant) (f : Flow) (o m : ℕ) (room₀ : List ℕ) where
  module _ (i k : ℕ) (room : List ℕ) (M : Merging gs f o m room₀ i k room) where
    -- the slot of the next new grant
    abbrev x : ℕ
    x = o + k * f.interval

    -- the old grants up to grant j, which start before it, are written
    pub merge_old : (j : ℕ) (next : List ℕ) → i ≤ j → j ≤ length gs → ((p : ℕ) → i ≤ p → p < j → (get_or gs p blank).start < o + k * f.interval)
        → next ≡ records_after (i + k) (take (j - i) (drop i gs)) room → Merging gs f o m room₀ j k next
    merge_old j next l h early r =
        let ns = grants_from f x (m - k) in
        let hs = take (j - i) (drop i gs) in
        let far : i + (j - i) ≡ j = omega arith in
        let many : i + k + length hs ≡ j + k = omega (arith, length-take-le (j - i) (drop i gs) (omega (arith, length-drop i gs))) in
        let parts : drop i gs ≡ hs ++ drop j gs =
        sym (take-append-drop (j - i) (drop i gs)) ∙ ap (λ (rs : List Grant). hs ++ rs) (drop-drop (j - i) i gs ∙ ap (λ (n : ℕ). drop n gs) far) in
        let first : joined ns (drop i gs) ≡ hs ++ joined ns (drop j gs) =
        ap (joined ns) parts ∙ joined-olds x ns hs (drop j gs) (from-after f x (m - k)) (all_part (λ g. g.start < x) i (j - i) gs (λ p a b _. early p a (omega arith))) in
        record {
          old = h;
          new = M.new;
          rest =
              ap (records_after (j + k) (joined ns (drop j gs))) r
              ∙ ap (λ (n : ℕ). records_after n (joined ns (drop j gs)) (records_after (i + k) hs room)) (sym many)
              ∙ sym (records-append (i + k) hs (joined ns (drop j gs)) room)
              ∙ ap (λ (rs : List Grant). records_after (i + k) rs room) (sym first)
              ∙ M.rest;
        }

    -- the next new grant is written: no old one left starts before it
    pub merge_new : (next : List ℕ) → Rising gs → (i < length gs → o + k * f.interval ≤ (get_or gs i blank).start) → k < m
        → next ≡ record_after (new_grant f (o + k * f.interval)) (i + k) room → Merging gs f o m room₀ i (k + 1) next
    unfolding records_after
    merge_new next rises h l r =
        let s : i + (k + 1) ≡ suc (i + k) = omega arith in
        let left : m - k ≡ suc (m - (k + 1)) = omega arith in
        let y : o + (k + 1) * f.interval ≡ x + f.interval = omega arith in
        let first : joined (grants_from f x (m - k)) (drop i gs) ≡ new_grant f x ∷ joined (grants_from f (x + f.interval) (m - (k + 1))) (drop i gs) =
        ap (λ (n : ℕ). joined (grants_from f x n) (drop i gs)) left ∙ joined-new f x (m - (k + 1)) (drop i gs) (rising-from x gs i rises h) in
        record { old = M.old; new = omega arith; rest = rw (s, r, y) (ap (λ (rs : List Grant). records_after (i + k) rs room) (sym first) ∙ M.rest) }

    -- no new grant is left: the old ones left are written, and so all are
    pub merge_end : (n : ℕ) (out : List ℕ) → n ≡ length gs → m ≤ k → out ≡ records_after (i + k) (take (n - i) (drop i gs)) room
        → out ≡ records_after 0 (joined (grants_from f o m) gs) room₀
    unfolding grants_from joined
    merge_end n out e h r =
        let z : m - k ≡ 0 = omega arith in
        let all : take (n - i) (drop i gs) ≡ drop i gs = take_all (n - i) (drop i gs) (omega (arith, length-drop i gs)) in
        r ∙ ap (λ (rs : List Grant). records_after (i + k) rs room) all ∙ rw z at M.rest

-- ---- old records copied as bytes

module _ (t : List ℕ) (bytes : (i : ℕ) → get_or t i 0 < 256) (whole : formed t ≡ true) (fit : All Fits (grants_in t)) where
  -- records of the table copied k records further on are its grants written there
  pub records_copied : (i j k : ℕ) (room next : List ℕ) → i ≤ j → j ≤ count t → place (j + k) ≤ length room
      → next ≡ sets room (place (i + k)) (take (place j - place i) (drop (place i) t)) → next ≡ records_after (i + k) (take (j - i) (drop i (grants_in t))) room
  records_copied i j k room next a b h e =
      let gs = grants_in t in
      let hs = take (j - i) (drop i gs) in
      let many : length hs ≡ j - i = length-take-le (j - i) (drop i gs) (omega (arith, length-drop i gs, length-grants t)) in
      e ∙ ap (sets room (place (i + k))) (records_part t bytes whole i j)
      ∙ sym (records-written (i + k) hs room (all_part Fits i (j - i) gs (λ p _ _ l. all_get_d Fits blank gs fit p l)) (omega (arith, many)))
