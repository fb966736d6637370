-- The flows of a run fulfil what it asks for in bytes and microseconds, and are numbered from 1; nothing about them is left open.
-- Assumes nothing.
use Rattle.std.proofs.Common.{◌≡◌, refl, sym, ap, ap₂, subst, ◌∙◌, true, ◌↔◌, List, [], ◌∷◌, ◌++◌, map, ℕ, zero, suc, ◌+◌, ◌*◌, ◌/◌, ◌%◌, ◌≤◌, ◌<◌, mod-lt, div-add-mod', mul-le-mul_right, le_of_mul-le-mul_right, arith, ltb, eqb, length, ltb-true, eqb-true}
use Rattle.std.proofs.Math.Nat.{div-eq_of_lt-le, div-eq_of_eq-mul_left}
use borrow.Author.Tests.{eqb-false}
use Rattle.logic.specs.Lists.{All}
use Rattle.logic.proofs.Tests.{by_test, by_lt, and_both}
use Rattle.flows.specs.declared.flow.Flow.{Flow}
use Rattle.flows.specs.Flows.{fields_of, flow_with}
use Rattle.refusals.specs.declared.Refusal.TheVariants.{NotWhole, NoChannel}
use Rattle.refusals.specs.Results.{Passed}
use Rattle.refusals.proofs.Chains.{unless_passed}
use Rattle.settings.specs.declared.Call.{Call}
use Rattle.settings.specs.Runs.{Item, items}
use Rattle.settings.specs.Encodings.{call}
use Rattle.settings.specs.Form.{Amounts, RunOf}
use Rattle.settings.specs.Slots.{Channel, amount, rounded_up, whole_slots, flow_for, flows_for, flows_from, flows_asked}
use Rattle.settings.specs.Units.{Fulfils, Fulfilled, Numbered}
use Rattle.settings.specs.Tests.{test26, test25}
use Rattle.settings.proofs.Form.{amounts, each_encoding, run-amounts}

-- ---- rounding up

module _ (a b : ℕ) (pos : 0 < b) where
  -- is enough
  up_enough : a ≤ rounded_up a b * b
  unfolding rounded_up
  up_enough =
      by_test (eqb (a % b) 0)
      (λ e. rw e (omega (arith, div-add-mod' a b, eqb-true (a % b) 0 e)))
      (λ e. rw e (omega (arith, div-add-mod' a b, mod-lt a pos)))

  -- and the least that is
  up_least : (n : ℕ) → a ≤ n * b → rounded_up a b ≤ n
  unfolding rounded_up
  up_least n h =
      by_test (eqb (a % b) 0)
      (λ e. rw e (le_of_mul-le-mul_right {k = b} (omega (arith, h, div-add-mod' a b)) pos))
      (λ e. by_lt (a / b) n (λ l. rw e (omega arith))
      (λ l. absurd (eqb-false (a % b) 0 e (omega (arith, h, div-add-mod' a b, mul-le-mul_right b l)))))

-- ---- the flows of one encoding

module _ (ch : Channel) (c : Call) where
  -- as many as grants
  pub length_for : (n k : ℕ) → length (flows_for ch n c k) ≡ k
  unfolding flows_for
  length_for n zero = refl
  length_for n (suc k) = ap suc (length_for (suc n) k)

  -- numbered as they come
  numbered_for : (n k : ℕ) → Numbered n (flows_for ch n c k)
  unfolding flows_for flow_for
  numbered_for n zero = tt
  numbered_for n (suc k) = (refl, numbered_for (suc n) k)

-- a channel that passes 26 has both values
pub channel_pos : (ch : Channel) → test26 ch ≡ Passed → (0 < ch.microseconds) × (0 < ch.bytes)
unfolding test26
channel_pos ch e =
    let a = and_both (ltb 0 ch.microseconds) (ltb 0 ch.bytes) (unless_passed _ NoChannel e) in
    (ltb-true 0 ch.microseconds a.0, ltb-true 0 ch.bytes a.1)

module _ (ch : Channel) (some : test26 ch ≡ Passed) (i : Item) (whole : whole_slots ch i ≡ true) where
  -- each fulfils what the encoding asks for
  fulfils : (n : ℕ) → Fulfils ch (amounts i) (flow_for ch n (call i))
  unfolding flow_for whole_slots
  fulfils n =
      let pos = channel_pos ch some in
      let c = call i in
      let t = ch.microseconds in
      record {
        size_enough = up_enough (amount c.size) ch.bytes pos.1;
        size_least = up_least (amount c.size) ch.bytes pos.1;
        interval_exact = omega (arith, div-add-mod' (amount c.interval) t, eqb-true (amount c.interval % t) 0 whole);
        jitter_within = omega (arith, div-add-mod' (amount c.jitter) t);
        jitter_most = omega (arith, div-add-mod' (amount c.jitter) t, mod-lt (amount c.jitter) pos.0);
      }

  -- however many
  all_fulfil : (n k : ℕ) → All (Fulfils ch (amounts i)) (flows_for ch n (call i) k)
  unfolding flows_for
  all_fulfil n zero = tt
  all_fulfil n (suc k) = (fulfils n, all_fulfil (suc n) k)

-- ---- the flows of a run

-- from any number on
from_fulfilled : (ch : Channel) → test26 ch ≡ Passed → (n : ℕ) (is : List Item) → All (λ i. whole_slots ch i ≡ true) is
    → Fulfilled ch (map amounts is) (flows_from ch n is)
unfolding flows_from
from_fulfilled ch some n [] w = refl
from_fulfilled ch some n (i ∷ is) w =
    let k = amount (call i).grants in (
      flows_for ch n (call i) k,
      flows_from ch (n + k) is,
      refl,
      length_for ch (call i) n k,
      all_fulfil ch some i w.0 n k,
      from_fulfilled ch some (n + k) is w.1,
    )

-- where the channel has both values and each interval is whole, the flows of a run are those that it asks for
pub fulfilled : (ch : Channel) (asked : List Amounts) (s : List ℕ) → test26 ch ≡ Passed → RunOf asked s → test25 ch s ≡ Passed
    → Fulfilled ch asked (flows_asked ch s)
unfolding test25 flows_asked
fulfilled ch asked s some r e =
    rw (run-amounts asked s r) (from_fulfilled ch some 1 (items s) ((each_encoding (whole_slots ch) NotWhole s).0 e))

-- flows one behind the other are numbered where both are, the others from where the first end
numbered_both : (n m : ℕ) (fs gs : List Flow) → n + length fs ≡ m → Numbered n (fs ++ gs) ↔ (Numbered n fs × Numbered m gs)
numbered_both n m [] gs e =
    let q : n ≡ m = omega (arith, e) in
    (λ b. (tt, subst (λ (k : ℕ). Numbered k gs) q b), λ b. subst (λ (k : ℕ). Numbered k gs) (sym q) b.1)
numbered_both n m (f ∷ fs) gs e =
    let ih = numbered_both (suc n) m fs gs (omega (arith, e)) in
    (λ b. ((b.0, (ih.0 b.1).0), (ih.0 b.1).1), λ b. (b.0.0, ih.1 (b.0.1, b.1)))

-- from any number on
from-numbered : (ch : Channel) (n : ℕ) (is : List Item) → Numbered n (flows_from ch n is)
unfolding flows_from
from-numbered ch n [] = tt
from-numbered ch n (i ∷ is) =
    let k = amount (call i).grants in
    (numbered_both n (n + k) (flows_for ch n (call i) k) (flows_from ch (n + k) is) (ap (λ (x : ℕ). n + x) (length_for ch (call i) n k))).1
    (numbered_for ch (call i) n k, from-numbered ch (n + k) is)

-- they are numbered from 1 as they come
pub numbered : (ch : Channel) (s : List ℕ) → Numbered 1 (flows_asked ch s)
unfolding flows_asked
numbered ch s = from-numbered ch 1 (items s)

-- ---- no other flows do

-- a slot length that is not zero is all that this needs of the channel
module _ (ch : Channel) (time : 0 < ch.microseconds) where
  module _ (a : Amounts) where
    -- interval and jitter are quotients
    interval_is : (f : Flow) → Fulfils ch a f → a.interval / ch.microseconds ≡ f.interval
    interval_is f p = div-eq_of_eq-mul_left time (sym p.interval_exact)

    jitter_is : (f : Flow) → Fulfils ch a f → a.jitter / ch.microseconds ≡ f.jitter
    jitter_is f p = div-eq_of_lt-le ch.microseconds p.jitter_within (omega (arith, p.jitter_most))

    -- a flow that fulfils what is asked for is known by its number
    flow-one : (f g : Flow) → Fulfils ch a f → Fulfils ch a g → f.number ≡ g.number → f ≡ g
    flow-one f g p q number =
        let size : f.size ≡ g.size = omega (arith, p.size_least g.size q.size_enough, q.size_least f.size p.size_enough) in
        let interval : f.interval ≡ g.interval = sym (interval_is f p) ∙ interval_is g q in
        let jitter : f.jitter ≡ g.jitter = sym (jitter_is f p) ∙ jitter_is g q in
        let fields : fields_of f ≡ fields_of g = cc in
        ap flow_with fields

    -- as many flows from the same number on
    own-one : (n : ℕ) (fs gs : List Flow) → length fs ≡ length gs → All (Fulfils ch a) fs → All (Fulfils ch a) gs
        → Numbered n fs → Numbered n gs → fs ≡ gs
    own-one n [] [] l p q x y = refl
    own-one n [] (g ∷ gs) l p q x y = absurd (omega (arith, l))
    own-one n (f ∷ fs) [] l p q x y = absurd (omega (arith, l))
    own-one n (f ∷ fs) (g ∷ gs) l p q x y =
        ap₂ (λ (z : Flow) (zs : List Flow). z ∷ zs) (flow-one f g p.0 q.0 (x.0 ∙ sym y.0))
        (own-one (suc n) fs gs (omega (arith, l)) p.1 q.1 x.1 y.1)

  -- flows that fulfil what is asked for and are numbered from n on are the only ones
  pub fulfilled_one : (asked : List Amounts) (n : ℕ) (fs gs : List Flow) → Fulfilled ch asked fs → Fulfilled ch asked gs
      → Numbered n fs → Numbered n gs → fs ≡ gs
  fulfilled_one [] n fs gs p q x y = p ∙ sym q
  fulfilled_one (a ∷ rest) n fs gs (own, others, e, l, h, p) (own', others', e', l', h', q) x y =
      let m = n + a.grants in
      let i = (numbered_both n m own others (ap (λ (k : ℕ). n + k) l)).0 (rw e at x) in
      let j = (numbered_both n m own' others' (ap (λ (k : ℕ). n + k) l')).0 (rw e' at y) in
      let first = own-one a n own own' (l ∙ sym l') h h' i.0 j.0 in
      e ∙ ap₂ (λ (us vs : List Flow). us ++ vs) first (fulfilled_one rest m others others' p q i.1 j.1) ∙ sym e'
