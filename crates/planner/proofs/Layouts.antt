-- A layout repeated for the next group's window. Assumes nothing.
use mathlib.Core.Path.{◌≡◌, refl, sym, ap, ap₂, ◌∙◌}
use mathlib.Core.Bool.{true}
use mathlib.Core.List.{List, [], ◌∷◌, ◌++◌, map, map-append}
use Prim.Native.Nat.{ℕ, zero, suc, ◌+◌, ◌-◌, ◌*◌, ◌%◌, ◌<◌}
use native.Mathlib.Nat.{mod-eq_of_lt, add-mod_left, mod-lt}
use native.Mathlib.Omega.{arith}
use lib.ListN.{length, get_or, get_or-append}
use lib.Seq.{get_or-append-add}
use borrow.Author.Tests.{eqb-true}
use Rattle.flows.specs.declared.flow.Flow.{Flow}
use Rattle.logic.specs.Lists.{sum}
use Rattle.placing.specs.Rule.{Settled, weight, content, past, lawful, contents, rep, opened}
use Rattle.planner.specs.Cells.{loads}
use Rattle.planner.specs.Cells.{limit, limits, members, standing}
use Rattle.logic.proofs.Tests.{by_lt}
use Rattle.planner.proofs.Copies.{length-rep}
use Rattle.planner.proofs.Limits.{lawful_tail}
use Rattle.planner.proofs.Grouping.{none, Filling}
use Rattle.placing.proofs.Layouts.{opened-olds}
use Rattle.planner.specs.State.{Agrees, Before}
use Rattle.planner.proofs.Settling.{standing_again}

-- the entry at m of a list over and over
pub rep_at : {A : Type 0} (xs : List A) (r m : ℕ) (d : A) → 0 < length xs → m < r * length xs → get_or (rep r xs) m d ≡ get_or xs (m % length xs) d
unfolding rep
rep_at xs zero m d z h = absurd (omega arith)
rep_at xs (suc r) m d z h =
    by_lt m (length xs)
    (λ l. get_or-append xs (rep r xs) d m l ∙ ap (λ (k : ℕ). get_or xs k d) (sym (mod-eq_of_lt l)))
    (λ l.
    let n = m - length xs in
    let e : m ≡ length xs + n = omega arith in
    rw e (get_or-append-add xs (rep r xs) n d ∙ rep_at xs r n d z (omega arith) ∙ ap (λ (k : ℕ). get_or xs k d) (sym (add-mod_left (length xs) n))))

map-rep : {A B : Type 0} (f : A → B) (r : ℕ) (xs : List A) → map f (rep r xs) ≡ rep r (map f xs)
unfolding rep
map-rep f zero xs = refl
map-rep {B = B} f (suc r) xs = map-append f xs (rep r xs) ∙ ap (λ (l : List B). map f xs ++ l) (map-rep f r xs)

-- two lawful windows, one after the other
lawful-join : (φ o : ℕ) (hs gs : List (List Settled)) → lawful φ o (loads hs) hs ≡ true → lawful φ 0 (loads gs) gs ≡ true
    → lawful φ o (loads (hs ++ gs)) (hs ++ gs) ≡ true
unfolding lawful loads
lawful-join φ o [] gs e f = let z : o ≡ 0 = eqb-true o 0 e in rw z f
lawful-join φ o (h ∷ hs) gs e f =
    let t = lawful_tail φ o (weight h) (loads hs) h hs e in
    rw (t.0, lawful) (lawful-join φ (past φ o (weight h)) hs gs t.1 f)

lawful-rep : (φ r : ℕ) (hs : List (List Settled)) → lawful φ 0 (loads hs) hs ≡ true → lawful φ 0 (loads (rep r hs)) (rep r hs) ≡ true
unfolding rep lawful loads
lawful-rep φ zero hs e = refl
lawful-rep φ (suc r) hs e = lawful-join φ 0 hs (rep r hs) e (lawful-rep φ r hs e)

contents-opened : (hs : List (List Settled)) → contents (opened hs) ≡ loads hs
unfolding contents opened loads content sum
contents-opened [] = refl
contents-opened (h ∷ hs) = ap₂ (λ (c : ℕ) (l : List ℕ). c ∷ l) (omega arith) (contents-opened hs)

new-opened : (hs : List (List Settled)) (m : ℕ) → (get_or (opened hs) m none).new ≡ []
unfolding opened
new-opened [] m = refl
new-opened (h ∷ hs) zero = refl
new-opened (h ∷ hs) (suc m) = new-opened hs m

-- the next group's window before its first flow
pub opened_is : (φ i r : ℕ) (fs : List Flow) (is : List ℕ) (hs : List (List Settled)) (cs ls ks bs : List ℕ) → Agrees φ fs is hs cs ls ks bs
    → Filling φ i [] (opened (rep r hs)) (rep r cs) (rep r ls) ks
unfolding members loads limits
opened_is φ i r fs is hs cs ls ks bs S =
    record {
      content = ap (rep r) S.content ∙ sym (contents-opened (rep r hs) ∙ map-rep weight r hs);
      limit = ap (rep r) S.limit ∙ sym (ap limits (opened-olds (rep r hs)) ∙ map-rep limit r hs);
      law = rw (contents-opened (rep r hs), opened-olds (rep r hs)) (lawful-rep φ r hs S.law);
      new = λ m h. new-opened (rep r hs) m;
    }

-- and its earlier grants
pub standing-rep : (φ i r : ℕ) (fs : List Flow) (is : List ℕ) (hs : List (List Settled)) (cs ls ks bs : List ℕ) → 0 < length hs → Before φ i (length hs) is
    → Agrees φ fs is hs cs ls ks bs → (m : ℕ) → m < length (rep r hs) → get_or (rep r hs) m [] ≡ standing φ fs ks bs is m
standing-rep φ i r fs is hs cs ls ks bs z b S m h =
    rep_at hs r m [] z (omega (arith, length-rep hs r))
    ∙ S.stand (m % length hs) (mod-lt m z)
    ∙ standing_again φ i (length hs) m fs ks bs is b
