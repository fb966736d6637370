-- Where the new flow fits: at the runs of free places in the intervals laid over one another. Assumes nothing.
use Rattle.std.proofs.Common.{◌≡◌, refl, sym, ap, ◌∙◌, Bool, true, false, List, ℕ, zero, suc, ◌+◌, ◌-◌, ◌*◌, ◌/◌, ◌%◌, ◌≤◌, ◌<◌, max, arith, mul-le-mul_right, mod-eq_of_lt, div-add-mod', div-lt_iff_lt-mul, length, get_or, leb, le-leb, eq-eqb, eqb-true}
use mathlib.Core.Bool.{or-true, and-false}
use native.Mathlib.Nat.{mul-add-mod_self_right}
use borrow.Author.Tests.{lt-leb}
use Rattle.logic.specs.Lists.{every}
use Rattle.logic.proofs.Tests.{by_test, by_lt, true-not-false}
use Rattle.logic.proofs.Members.{all_get_d, get_d_all, every-all, all-every}
use Rattle.marks.specs.Marks.{bit, marked}
use Rattle.flows.specs.declared.flow.Flow.{Flow}
use Rattle.lists.specs.Lists.{flows_of}
use Rattle.lists.specs.Facts.{occupies, cycle, grants_of}
use Rattle.tables.specs.declared.packed.Grant.{Grant}
use Rattle.tables.specs.Tables.{count, grants_of as grants_in}
use Rattle.tables.proofs.Records.{length-grants}
use Rattle.law.specs.Check.{slots}
use Rattle.law.specs.Law.{blank, nth}
use Rattle.law.proofs.Chains.{chain_at}
use Rattle.offsets.specs.Offsets.{grants_from, new_grants, apart, free, fits, offset}
use Rattle.offsets.proofs.Smallest.{smallest_same}
use Rattle.offsets.proofs.Joining.{length_from}
use Rattle.adding.specs.Parts.{new_grant, Overlaid, free_from, run_at, first_run}
use Rattle.adding.proofs.Known.{Known}
use Rattle.adding.proofs.Runs.{some_taken, one_taken, run_late, run_inside}

-- one entry that fails
every_fails : {A : Type 0} (ok : A → Bool) (d : A) (xs : List A) (k : ℕ) → k < length xs → ok (get_or xs k d) ≡ false → every ok xs ≡ false
every_fails ok d xs k h e =
    by_test (every ok xs) (λ t. true-not-false (sym (all_get_d (λ x. ok x ≡ true) d xs (every-all ok xs t) k h) ∙ e)) (λ t. t)

module _ (l t : List ℕ) (f : Flow) (K : Known l t f) where
  abbrev fs : List Flow
  fs = flows_of l

  abbrev gs : List Grant
  gs = grants_in t

  -- the new flow's grants
  abbrev many : ℕ
  many = grants_of (cycle fs) f

  -- the new grant k
  from_at : (x n k : ℕ) → k < n → get_or (grants_from f x n) k blank ≡ new_grant f (x + k * f.interval)
  unfolding grants_from
  from_at x zero k h = absurd (omega arith)
  from_at x (suc n) zero h = let e : x + 0 * f.interval ≡ x = omega arith in rw e
  from_at x (suc n) (suc k) h = let e : x + f.interval + k * f.interval ≡ x + suc k * f.interval = omega arith in rw (← e) (from_at (x + f.interval) n k (omega arith))

  -- one of them that is not free
  one_fails : (o k : ℕ) → k < many → free fs gs f (new_grant f (o + k * f.interval)) ≡ false → fits fs gs f o ≡ false
  unfolding fits new_grants
  one_fails o k h e = every_fails (free fs gs f) blank (grants_from f o many) k (omega (arith, length_from f o many)) (rw (from_at o many k h) e)

  -- where a grant would end behind its interval the last one would end behind the cycle
  late_fails : (o : ℕ) → f.interval < o + occupies f → fits fs gs f o ≡ false
  unfolding free
  late_fails o h = go many refl
    where
      go : (n : ℕ) → many ≡ n → fits fs gs f o ≡ false
      go zero e = absurd (omega (arith, K.fills, ap (λ (k : ℕ). k * f.interval) e, K.rule.timed, K.high))
      go (suc n) e =
          let over : cycle fs < o + n * f.interval + occupies f = omega (arith, K.fills, ap (λ (k : ℕ). k * f.interval) e) in
          one_fails o n (omega arith) (rw (lt-leb (o + n * f.interval + occupies f) (cycle fs) over) (and-false (every (apart fs f (new_grant f (o + n * f.interval))) gs)))

  module _ (bs : List ℕ) (O : Overlaid fs gs (count t) f.interval bs) (o : ℕ) (ends : o + occupies f ≤ f.interval) where
    -- a place of the offset is taken: the grant whose slot is there shares it with the new one in its interval
    meets : (q : ℕ) → o ≤ q → q < o + occupies f → marked bs q ≡ true → fits fs gs f o ≡ false
    unfolding free apart
    meets q a b m =
        let y = O.only q (eqb-true (bit bs q) 1 m) in
        let j = y.0 in
        let s = y.1 in
        let within : j < length gs = omega (arith, y.2, length-grants t) in
        let g = nth gs j in
        let k = s / f.interval in
        let x = o + k * f.interval in
        let is : s ≡ k * f.interval + q = omega (arith, div-add-mod' s f.interval, y.4) in
        let early : s < many * f.interval = omega (arith, y.3, chain_at fs 0 (cycle fs) gs j K.chain within, K.fills) in
        let few : k < many = (div-lt_iff_lt-mul K.rule.timed).1 early in
        let low : g.start < x + occupies f = omega (arith, y.3.0) in
        let high : x < g.start + slots fs g = omega (arith, y.3.1) in
        let clash = every_fails (apart fs f (new_grant f x)) blank gs j within (rw (lt-leb (x + occupies f) g.start low, lt-leb (g.start + slots fs g) x high)) in
        one_fails o k few (rw clash)

    -- none is taken: the later of the two starts of a new and an old grant that share a slot would be
    module _ (clear : free_from bs o (occupies f) ≡ true) where
      -- a slot of the new flow's grant k is no slot of an old one
      untaken : (k j s : ℕ) → j < length gs → o + k * f.interval ≤ s → s < o + k * f.interval + occupies f → (nth gs j).start ≤ s → s < (nth gs j).start + slots fs (nth gs j) → ⊥
      untaken k j s h a b c d =
          let q = s - k * f.interval in
          let e : s ≡ k * f.interval + q = omega arith in
          let place : s % f.interval ≡ q = ap (λ (y : ℕ). y % f.interval) e ∙ mul-add-mod_self_right k f.interval q ∙ mod-eq_of_lt (omega arith) in
          let m = O.all j s (omega (arith, length-grants t)) (c, d) in
          true-not-false (sym clear ∙ one_taken bs o (occupies f) q (omega arith) (omega arith) (ap (λ (y : ℕ). marked bs y) (sym place) ∙ eq-eqb _ 1 m))

      -- a grant of the new flow has a slot
      taken : 0 < occupies f
      unfolding occupies
      taken = K.rule.sized

      -- the new flow's grant k and an old one
      clear_one : (k j : ℕ) → j < length gs → apart fs f (new_grant f (o + k * f.interval)) (nth gs j) ≡ true
      unfolding apart
      clear_one k j h =
          let x = o + k * f.interval in
          let g = nth gs j in
          by_lt g.start (x + occupies f)
          (λ a. by_lt x (g.start + slots fs g)
          (λ b. absurd (untaken k j (max x g.start) h (omega arith) (omega (arith, taken)) (omega arith) (omega (arith, all_get_d (λ g. 0 < slots fs g) blank gs K.sized j h))))
          (λ b. rw (le-leb (g.start + slots fs g) x b) (or-true (leb (x + occupies f) g.start))))
          (λ a. rw (le-leb (x + occupies f) g.start a))

      -- and so grant k is free
      free_one : (k : ℕ) → k < many → free fs gs f (new_grant f (o + k * f.interval)) ≡ true
      unfolding free
      free_one k h =
          let x = o + k * f.interval in
          let inside : x + occupies f ≤ cycle fs = omega (arith, K.fills, mul-le-mul_right f.interval h) in
          rw (all-every (apart fs f (new_grant f x)) gs (get_d_all (λ g. apart fs f (new_grant f x) g ≡ true) blank gs (clear_one k)), le-leb (x + occupies f) (cycle fs) inside)

      -- all of them are
      clears : fits fs gs f o ≡ true
      unfolding fits new_grants
      clears =
          all-every (free fs gs f) (grants_from f o many)
          (get_d_all (λ g. free fs gs f g ≡ true) blank (grants_from f o many)
          (λ k h. let few : k < many = omega (arith, length_from f o many) in rw (from_at o many k few) (free_one k few)))

  -- the new flow fits where a run of free places is
  pub fits_is_run : (bs : List ℕ) → Overlaid fs gs (count t) f.interval bs → (o : ℕ) → fits fs gs f o ≡ run_at bs (occupies f) f.interval o
  fits_is_run bs O o =
      by_lt f.interval (o + occupies f) (λ h. late_fails o h ∙ sym (run_late bs (occupies f) f.interval o h))
      (λ h.
      by_test (free_from bs o (occupies f)) (λ e. clears bs O o h e ∙ sym e)
      (λ e. let y = some_taken bs o (occupies f) e in meets bs O o h y.0 y.1 y.2 y.3 ∙ sym e)
      ∙ sym (run_inside bs (occupies f) f.interval o h))

  -- and so its smallest offset is where the first one starts
  pub offset_is_run : (bs : List ℕ) → Overlaid fs gs (count t) f.interval bs → offset fs gs f ≡ first_run bs (occupies f) f.interval
  unfolding offset
  offset_is_run bs O = smallest_same (fits fs gs f) (run_at bs (occupies f) f.interval) 0 f.interval (fits_is_run bs O)
