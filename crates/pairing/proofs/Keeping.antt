-- The intervals kept in their cells tell whether an interval is related to those of all earlier records. Assumes nothing.
use mathlib.Core.Path.{◌≡◌, refl, sym, ap, ◌∙◌}
use mathlib.Core.Bool.{Bool, true, false, ◌&&◌}
use mathlib.Core.List.{List, [], ◌∷◌}
use Prim.Native.Nat.{ℕ, zero, suc, ◌+◌, ◌-◌, ◌*◌, ◌%◌, ◌^◌, ◌≤◌, ◌<◌, max, min}
use native.Mathlib.Omega.{arith}
use native.Mathlib.Nat.{mod_self, mod-eq_of_lt, add-mod_left, pow-suc}
use lib.Count.{count_leading_zeros, leading_of_zero, leading_le, leading_top}
use lib.ListN.{length, get_or, set, replicate, length-set, get_or-replicate, get_or-eq_default}
use lib.Seq.{get_or-set_same, get_or-set_other}
use lib.Dec.{eqb}
use borrow.Author.Tests.{eq-eqb, eqb-true}
use Rattle.std.specs.Option.{option_eq}
use Rattle.std.specs.List.{list_all}
use Rattle.std.proofs.Common.{Option, Some, None}
use Rattle.logic.specs.Lists.{every}
use Rattle.logic.proofs.Tests.{by_lt, by_eq, and_both, both_and, true-not-false}
use Rattle.flows.specs.declared.flow.Flow.{Flow}
use Rattle.flows.specs.Flows.{no_flow}
use Rattle.refusals.proofs.Walks.{before}
use Rattle.lists.specs.Lists.{count, flow_at, flows_of}
use Rattle.lists.specs.Facts.{related}
use Rattle.pairing.specs.Parts.{agrees_with_cell, related_to_kept, Chain, Kept}
use Rattle.pairing.proofs.Verdicts.{every_more}

-- ---- related intervals

-- relation is the same both ways, and an interval is related to itself
related_sym : (a b : ℕ) → related a b ≡ related b a
unfolding related
related_sym a b =
    let g : max a b ≡ max b a = omega arith in
    let s : min a b ≡ min b a = omega arith in
    rw (g, s)

related_self : (a : ℕ) → related a a ≡ true
unfolding related
related_self a =
    let g : max a a ≡ a = omega arith in
    let s : min a a ≡ a = omega arith in
    rw (g, s, mod_self a) (eq-eqb 0 0 refl)

-- a number that divides one less than twice as large divides itself
divides_itself : (a b : ℕ) → b ≤ a → a < 2 * b → a % b ≡ 0 → a ≡ b
divides_itself a b h l e =
    let whole : b + (a - b) ≡ a = omega arith in
    let left : a % b ≡ a - b = ap (λ (n : ℕ). n % b) (sym whole) ∙ add-mod_left b (a - b) ∙ mod-eq_of_lt (omega arith) in
    omega (arith, left, e)

-- two intervals with as many leading zeros
module _ (a b : ℕ) (p : a < 65536) (q : b < 65536) (e : count_leading_zeros 16 a ≡ count_leading_zeros 16 b) where
  -- each is less than twice the other, or 0
  less_than_twice : 0 < b → a < 2 * b
  less_than_twice z = by_eq a 0 (λ u. omega arith) (λ u.
      let s = leading_top 16 a (omega arith) p in
      let t = leading_top 16 b z q in
      let same : s.0 ≡ t.0 = omega (arith, s.1, t.1, e) in
      let below : a < 2 ^ suc t.0 = rw same at s.3 in
      omega (arith, below, t.2, pow-suc 2 t.0))

  -- so 0 has them alone
  zero_alone : a ≡ 0 → b ≡ 0
  zero_alone u = by_eq b 0 (λ v. v) (λ v.
      let all : count_leading_zeros 16 b ≡ 16 = sym e ∙ ap (count_leading_zeros 16) u ∙ leading_of_zero 16 in
      let t = leading_top 16 b (omega arith) q in
      absurd (omega (arith, all, t.1)))

-- are related only if they are the same
same_zeros : (a b : ℕ) → a < 65536 → b < 65536 → count_leading_zeros 16 a ≡ count_leading_zeros 16 b → related a b ≡ true → a ≡ b
unfolding related
same_zeros a b p q e t =
    by_eq a 0 (λ u. u ∙ sym (zero_alone a b p q e u)) (λ u.
    by_eq b 0 (λ v. absurd (u (zero_alone b a q p (sym e) v))) (λ v.
    let ab : a < 2 * b = less_than_twice a b p q e (omega arith) in
    let ba : b < 2 * a = less_than_twice b a q p (sym e) (omega arith) in
    let same : max a b ≡ min a b = divides_itself (max a b) (min a b) (omega arith) (omega arith) (eqb-true _ 0 t) in
    omega (arith, same)))

-- ---- the cells

-- a cell has no interval, or one
by_cell {ℓ} : {P : Type ℓ} (cell : Option ℕ) → (cell ≡ None → P) → ((y : ℕ) → cell ≡ Some y → P) → P
by_cell None f g = f refl
by_cell (Some y) f g = g y refl

-- whether it has x
pub is_held : (cell : Option ℕ) (x : ℕ) → option_eq eqb cell (Some x) ≡ true → cell ≡ Some x
is_held None x e = true-not-false (sym e)
is_held (Some y) x e = ap Some (eqb-true y x e)

pub not_held : (cell : Option ℕ) (x : ℕ) → option_eq eqb cell (Some x) ≡ false → cell ≡ Some x → ⊥
not_held cell x e u = true-not-false (sym (rw u (eq-eqb x x refl)) ∙ e)

-- what passes for every entry passes for any, and one more is put where the old one passed
module _ {A : Type 0} (ok : A → Bool) (d : A) where
  any_of_all : (xs : List A) (k : ℕ) → list_all ok xs ≡ true → k < length xs → ok (get_or xs k d) ≡ true
  any_of_all [] k t h = absurd (omega arith)
  any_of_all (x ∷ xs) zero t h = (and_both (ok x) (list_all ok xs) t).0
  any_of_all (x ∷ xs) (suc k) t h = any_of_all xs k (and_both (ok x) (list_all ok xs) t).1 (omega arith)

  all_set : (xs : List A) (k : ℕ) (v : A) → k < length xs → ok (get_or xs k d) ≡ true → list_all ok (set xs k v) ≡ ok v && list_all ok xs
  all_set [] k v h e = absurd (omega arith)
  all_set (x ∷ xs) zero v h e = ap (λ (b : Bool). ok v && (b && list_all ok xs)) (sym e)
  all_set (x ∷ xs) (suc k) v h e = ap (λ (b : Bool). ok x && b) (all_set xs k v (omega arith) e) ∙ swapped (ok x) (ok v) (list_all ok xs)
    where
      swapped : (a b c : Bool) → a && (b && c) ≡ b && (a && c)
      swapped true b c = refl
      swapped false true c = refl
      swapped false false c = refl

-- x is related to all that are kept, and so to any
each_cell : (cells : List (Option ℕ)) (x j y : ℕ) → get_or cells j None ≡ Some y → related_to_kept cells x ≡ true → related y x ≡ true
each_cell cells x j y e t = by_lt j (length cells)
    (λ h. rw e at (any_of_all (agrees_with_cell x) None cells j t h))
    (λ h. let none : get_or cells j None ≡ None = get_or-eq_default cells None h in cc)

-- a test that follows from another adds nothing to it
follows : (a b : Bool) → (b ≡ true → a ≡ true) → b ≡ a && b
follows true b i = refl
follows false true i = sym (i refl)
follows false false i = refl

-- no interval is kept where all cells are empty
pub chain_none : Chain (replicate 17 None)
chain_none = record { all = refl; small = λ j y e. absurd (none j y e); own = λ j y e. absurd (none j y e); related = λ j y e. absurd (none j y e) }
  where
    none : (j y : ℕ) → get_or (replicate 17 None) j None ≡ Some y → ⊥
    none j y e =
        let z : get_or (replicate 17 None) j None ≡ None = by_lt j 17 (λ h. get_or-replicate {A = Option ℕ} 17 j None None h) (λ h. get_or-eq_default (replicate 17 None) None h) in
        cc

-- an interval x and the cell of its leading zeros
module _ (cells : List (Option ℕ)) (x : ℕ) (small : x < 8192) (c : Chain cells) where
  abbrev own : ℕ
  own = count_leading_zeros 16 x

  -- which is there
  pub own_there : own < length cells
  own_there = omega (arith, leading_le 16 x, c.all)

  -- the cell holds it: it is kept
  module _ (e : get_or cells own None ≡ Some x) where
    pub held_related : related_to_kept cells x ≡ true
    held_related = c.related own x e

    pub held_kept : Kept cells x cells
    held_kept = record { chain = c; more = λ y. follows (related x y) (related_to_kept cells y) (each_cell cells y own x e) }

  -- it does not, and x is related to all: the cell is empty, and takes it
  module _ (n : get_or cells own None ≡ Some x → ⊥) (t : related_to_kept cells x ≡ true) where
    empty : get_or cells own None ≡ None
    empty = by_cell (get_or cells own None) (λ z. z) (λ y z.
        let same : y ≡ x = same_zeros y x (c.small own y z) (omega arith) (c.own own y z) (each_cell cells x own y z t) in
        absurd (n (z ∙ ap Some same)))

    abbrev new : List (Option ℕ)
    new = set cells own (Some x)

    filled : (y : ℕ) → related_to_kept new y ≡ related x y && related_to_kept cells y
    filled y = all_set (agrees_with_cell y) None cells own (Some x) own_there (rw empty)

    -- what is kept now is x, or was kept before
    by_new {ℓ} : {P : Type ℓ} (j y : ℕ) → get_or new j None ≡ Some y → (j ≡ own → y ≡ x → P) → (get_or cells j None ≡ Some y → P) → P
    by_new j y z f g = by_eq j own
        (λ e. let here : get_or new own None ≡ Some x = get_or-set_same cells own (Some x) None own_there in f e (cc))
        (λ u. g (sym (get_or-set_other cells own j (Some x) None u) ∙ z))

    pub filled_kept : Kept cells x new
    filled_kept =
        record {
          chain = record {
            all = simp length-set c.all;
            small = λ j y z. by_new j y z (λ e s. omega arith) (c.small j y);
            own = λ j y z. by_new j y z (λ e s. rw (e, s)) (c.own j y);
            related = λ j y z. by_new j y z
                (λ e s. rw s (filled x ∙ both_and (related x x) _ (related_self x) t))
                (λ k. filled y ∙ both_and (related x y) _ (related_sym x y ∙ each_cell cells x j y k t) (c.related j y k));
          };
          more = filled;
        }

-- ---- the records

-- an interval is related to all that are kept exactly where it is to those of some records
abbrev pub Holds : List (Option ℕ) → List Flow → Type 0
Holds cells fs = (y : ℕ) → related_to_kept cells y ≡ every (λ f. related f.interval y) fs

-- where all cells are empty, there are no records
pub holds-none : Holds (replicate 17 None) []
unfolding every
holds-none y = refl

-- a record more, whose interval is kept
pub holds_more : (l : List ℕ) (i : ℕ) (f : Flow) (xs ys : List (Option ℕ)) → i < count l → f ≡ flow_at l i
    → Holds xs (before (flows_of l) no_flow i) → Kept xs f.interval ys → Holds ys (before (flows_of l) no_flow (i + 1))
holds_more l i f xs ys h e a k y =
    k.more y ∙ ap (λ (b : Bool). related f.interval y && b) (a y) ∙ sym (every_more (λ g. related g.interval y) l i f h e)
