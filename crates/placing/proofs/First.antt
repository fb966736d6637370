-- The frame found is the first lawful one, in document 01's words: the whole window is lawful with the flow put there. Assumes nothing.
use Rattle.std.proofs.Common.{Option, Some, None, ◌≡◌, refl, sym, ap, ◌∙◌, subst, true, false, ◌⊎◌, inl, inr, ⊎_elim, ◌↔◌, List, [], ◌∷◌, ℕ, zero, suc, ◌+◌, ◌<◌, arith, length, get_or, take}
use Rattle.logic.proofs.Tests.{by_test, by_order, true-not-false}
use Rattle.flows.specs.declared.flow.Flow.{Flow}
use Rattle.lists.specs.Facts.{occupies}
use Rattle.placing.specs.Rule.{done, Settled, Frame, content, past, lawful, takes, first_lawful, contents, olds, put, group, rep, opened}
use Rattle.placing.proofs.Overhangs.{passing, Each, Spare, spare_within, lawful_each, each_lawful}
use Rattle.placing.proofs.Placed.{takes-here, here-takes}
use Rattle.placing.proofs.Groups.{group_ind}
use Rattle.placing.proofs.Layouts.{rep-passing, rep_each}

-- a frame that a window has not
abbrev none : Frame
none = record { old = []; new = [] }

-- frame k has at least one free slot, and the whole window is lawful with the flow put there; the first frame has the overhang o
pub record Lawful (φ : ℕ) (f : Flow) (o : ℕ) (xs : List Frame) (k : ℕ) : Type 0 where
  pub frame : k < length xs
  pub free : passing φ o (take k xs) + content (get_or xs k none) < φ
  pub whole : lawful φ o (contents (put f k xs)) (olds (put f k xs)) ≡ true

-- frame k is lawful, and no frame before it
abbrev pub First : ℕ → Flow → List Frame → ℕ → Type 0
First φ f xs k = Lawful φ f 0 xs k × ((j : ℕ) → j < k → Lawful φ f 0 xs j → ⊥)

module _ (φ : ℕ) (f : Flow) where
  -- of the first frame
  lawful-takes : (o : ℕ) (x : Frame) (xs : List Frame) → Lawful φ f o (x ∷ xs) 0 → takes φ (occupies f) o (contents (x ∷ xs)) (olds (x ∷ xs)) ≡ true
  unfolding passing put
  lawful-takes o x xs l = here-takes φ f o x xs l.free l.whole

  takes-lawful : (o : ℕ) (x : Frame) (xs : List Frame) → takes φ (occupies f) o (contents (x ∷ xs)) (olds (x ∷ xs)) ≡ true → Lawful φ f o (x ∷ xs) 0
  unfolding passing put
  takes-lawful o x xs t = let h = takes-here φ f o x xs t in record { frame = omega arith; free = h.0; whole = h.1 }

  -- of a later frame: the frames before it stay where they are
  module _ (o : ℕ) (x : Frame) (xs : List Frame) (s : Spare 0 o x.old) where
    behind : (ys : List Frame) → lawful φ o (contents (x ∷ ys)) (olds (x ∷ ys)) ≡ lawful φ (past φ o (content x)) (contents ys) (olds ys)
    unfolding lawful contents olds
    behind ys = rw (spare_within 0 o x.old s, lawful)

    later : (k : ℕ) → Lawful φ f (past φ o (content x)) xs k → Lawful φ f o (x ∷ xs) (suc k)
    unfolding passing put
    later k l = record { frame = omega (arith, l.frame); free = l.free; whole = behind (put f k xs) ∙ l.whole }

    earlier : (k : ℕ) → Lawful φ f o (x ∷ xs) (suc k) → Lawful φ f (past φ o (content x)) xs k
    unfolding passing put
    earlier k l = record { frame = omega (arith, l.frame); free = l.free; whole = sym (behind (put f k xs)) ∙ l.whole }

  abbrev found : ℕ → ℕ → List Frame → Option ℕ
  found n o xs = first_lawful φ (occupies f) n o (contents xs) (olds xs)

  -- what the search comes to: the first lawful frame, or no frame is lawful
  abbrev Searched : ℕ → ℕ → List Frame → Type 0
  Searched n o xs =
      ((k : ℕ) × (found n o xs ≡ Some (n + k)) × Lawful φ f o xs k × ((j : ℕ) → j < k → Lawful φ f o xs j → ⊥))
      ⊎ ((found n o xs ≡ None) × ((j : ℕ) → Lawful φ f o xs j → ⊥))

  module _ (n o : ℕ) (x : Frame) (xs : List Frame) (s : Spare 0 o x.old) (t : takes φ (occupies f) o (contents (x ∷ xs)) (olds (x ∷ xs)) ≡ false) where
    next : found n o (x ∷ xs) ≡ found (suc n) (past φ o (content x)) xs
    unfolding first_lawful contents olds
    next = rw (t, first_lawful)

    not-before : (k : ℕ) → ((j : ℕ) → j < k → Lawful φ f (past φ o (content x)) xs j → ⊥) → (j : ℕ) → j < suc k → Lawful φ f o (x ∷ xs) j → ⊥
    not-before k a zero l w = true-not-false (sym (lawful-takes o x xs w) ∙ t)
    not-before k a (suc j) l w = a j (omega arith) (earlier o x xs s j w)

    passed : Searched (suc n) (past φ o (content x)) xs → Searched n o (x ∷ xs)
    passed (inl y) =
        let m : suc n + y.0 ≡ n + suc y.0 = omega arith in
        inl (suc y.0, next ∙ y.1 ∙ ap Some m, later o x xs s y.0 y.2, not-before y.0 y.3)
    passed (inr y) = inr (next ∙ y.0, λ j. not-before j (λ i l. y.1 i) j (omega arith))

  search : (n o : ℕ) (xs : List Frame) → Each (Spare 0) φ o xs → Searched n o xs
  unfolding first_lawful contents olds
  search n o [] s = inr (refl, λ j l. omega (arith, l.frame))
  search n o (x ∷ xs) s =
      by_test (takes φ (occupies f) o (contents (x ∷ xs)) (olds (x ∷ xs)))
      (λ t.
      let m : n ≡ n + 0 = omega arith in
      inl (0, rw (t, first_lawful) (ap Some m), takes-lawful o x xs t, λ j l. absurd (omega arith)))
      (λ t. passed n o x xs s.0 t (search (suc n) (past φ o (content x)) xs s.1))

  -- in a window that is lawful before, the flow stays in the first lawful frame, and is refused where there is none
  module _ (xs : List Frame) (before : lawful φ 0 (contents xs) (olds xs) ≡ true) where
    searched : ((k : ℕ) × (found 0 0 xs ≡ Some k) × First φ f xs k) ⊎ ((found 0 0 xs ≡ None) × ((j : ℕ) → Lawful φ f 0 xs j → ⊥))
    searched =
        ⊎_elim (λ y. let m : 0 + y.0 ≡ y.0 = omega arith in inl (y.0, y.1 ∙ ap Some m, (y.2, y.3))) inr (search 0 0 xs (lawful_each φ 0 xs before).1)

    pub found_first : (k : ℕ) → (found 0 0 xs ≡ Some k) ↔ First φ f xs k
    found_first k =
        ⊎_elim
        (λ y. (
          λ e. let q : y.0 ≡ k = cc in subst (First φ f xs) q y.2,
          λ l.
              by_order y.0 k
              (λ h. absurd (l.1 y.0 h y.2.0))
              (λ q. y.1 ∙ ap Some q)
              (λ h. absurd (y.2.1 k h l.0)),
        ))
        (λ y. (λ e. cc, λ l. absurd (y.1 k l.0)))
        searched

    pub nowhere_none : (found 0 0 xs ≡ None) ↔ ((k : ℕ) → Lawful φ f 0 xs k → ⊥)
    nowhere_none =
        ⊎_elim
        (λ y. (λ e. cc, λ n. absurd (n y.0 y.2.0)))
        (λ y. (λ e. y.1, λ n. y.0))
        searched

-- the window in which a group's first flow is tried is lawful
pub copies-lawful : (φ m : ℕ) (hs : List (List Settled)) → passing φ 0 (opened hs) ≡ 0 → Each (Spare 0) φ 0 (opened hs)
    → lawful φ 0 (contents (opened (rep m hs))) (olds (opened (rep m hs))) ≡ true
copies-lawful φ m hs z s = each_lawful 0 φ 0 (opened (rep m hs)) (rep-passing φ hs z m) (rep_each φ hs z (Spare 0) m s)

-- the flows of interval i among fs, one after the other, each in its first lawful frame: the frames are xs before and ys after
abbrev pub Placing : ℕ → ℕ → List Flow → List Frame → List Frame → Type 0
Placing φ i [] xs ys = xs ≡ ys
Placing φ i (f ∷ fs) xs ys =
    ((f.interval ≡ i) × ((k : ℕ) × First φ f xs k × Placing φ i fs (put f k xs) ys)) ⊎ ((f.interval ≡ i → ⊥) × Placing φ i fs xs ys)

-- so a group is placed
pub group-first : (φ i p : ℕ) (fs : List Flow) (xs ys : List Frame) → group φ i p xs fs ≡ done ys → lawful φ 0 (contents xs) (olds xs) ≡ true → Placing φ i fs xs ys
group-first φ i =
    group_ind φ i (λ fs xs ys. lawful φ 0 (contents xs) (olds xs) ≡ true → Placing φ i fs xs ys)
    (λ xs l. refl)
    (λ k f fs xs ys e w ih l. let first = (found_first φ f xs l k).0 w in inl (e, (k, first, ih first.0.whole)))
    (λ f fs xs ys e ih l. inr (e, ih l))
