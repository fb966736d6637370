-- A flow's grants keep its rule forever exactly when its nominal times are a progression that fills one round. Assumes nothing.
use mathlib.Core.Path.{◌≡◌, refl, sym, ap, ◌∙◌}
use mathlib.Core.List.{List, map}
use Prim.Native.Nat.{ℕ, zero, suc, ◌+◌, ◌*◌, ◌/◌, ◌%◌, ◌≤◌, ◌<◌}
use native.Mathlib.Omega.{arith}
use native.Mathlib.Nat.{div-eq_of_lt, mod-eq_of_lt, div_self, mod_self, mod-lt, div-add-mod'}
use lib.ListN.{length, get_or, length-map, get_or-map}
use lib.Seq.{ext_get_or}
use Rattle.logic.specs.Lists.{All}
use Rattle.logic.proofs.Members.{all_get_d, get_d_all}
use Rattle.logic.proofs.Progressions.{progression, progression-length, progression-at}
use Rattle.flows.specs.declared.flow.Flow.{Flow}
use Rattle.tables.specs.declared.packed.Grant.{Grant}
use Rattle.law.specs.Check.{nominal}
use Rattle.law.specs.Law.{blank, nth, nominal_time, kth, actual_time, Obeys}

-- one round: n nominal times from t on, n intervals long, each grant within the jitter
pub record Round (z c : ℕ) (gs : List Grant) (f : Flow) (t : ℕ) : Type 0 where
  pub granted : 0 < length gs
  pub fills : length gs * f.interval ≡ c
  pub punctual : All (λ r. (r.late ≤ f.jitter) × (r.late ≤ z + r.start)) gs
  pub times : map (nominal z) gs ≡ progression t f.interval (length gs)

-- a grant of the round's progression
round-at : (z c : ℕ) (gs : List Grant) (f : Flow) (t : ℕ) → Round z c gs f t → (k : ℕ) → k < length gs
    → (z + (nth gs k).start ≡ t + k * f.interval + (nth gs k).late) × ((nth gs k).late ≤ f.jitter)
round-at z c gs f t o k h =
    let p = all_get_d (λ r. (r.late ≤ f.jitter) × (r.late ≤ z + r.start)) blank gs o.punctual k h in
    let n : nominal z (nth gs k) ≡ t + k * f.interval =
    sym (get_or-map (nominal z) gs k blank) ∙ ap (λ (l : List ℕ). get_or l k (nominal z blank)) o.times ∙ progression-at t f.interval (length gs) k (nominal z blank) h in
    (omega arith, p.0)

module _ (z c : ℕ) (gs : List Grant) (f : Flow) where
  pub round_obeys : (t : ℕ) → Round z c gs f t → Obeys z c gs f
  round_obeys t o = record { granted = o.granted; reference = t; within = λ k. omega (arith, is k); stated = λ k. omega (arith, is k) }
    where
      is : (k : ℕ) → (actual_time z c gs k ≡ nominal_time t f k + (kth gs k).late) × ((kth gs k).late ≤ f.jitter)
      is k =
          let n = length gs in
          let p = round-at z c gs f t o (k % n) (mod-lt k o.granted) in
          (omega (arith, p.0, ap (λ (x : ℕ). (k / n) * x) o.fills, ap (λ (x : ℕ). x * f.interval) (div-add-mod' k n)), p.1)

  module _ (o : Obeys z c gs f) where
    -- the grants of round 0
    obeys_at : (k : ℕ) → k < length gs → (z + (nth gs k).start ≡ o.reference + k * f.interval + (nth gs k).late) × ((nth gs k).late ≤ f.jitter)
    obeys_at k h =
        let w = rw (div-eq_of_lt h, mod-eq_of_lt h) at (o.within k) in
        let s = rw (div-eq_of_lt h, mod-eq_of_lt h) at (o.stated k) in
        omega arith

    pub obeys_round : Round z c gs f o.reference
    obeys_round =
        let n = length gs in
        let w = rw (div_self o.granted, mod_self n) at (o.within n) in
        let s = rw (div_self o.granted, mod_self n) at (o.stated n) in
        record {
          granted = o.granted;
          fills = omega (arith, obeys_at 0 o.granted);
          punctual = get_d_all (λ r. (r.late ≤ f.jitter) × (r.late ≤ z + r.start)) blank gs (λ k h. omega (arith, obeys_at k h));
          times =
              ext_get_or (nominal z blank) (map (nominal z) gs) (progression o.reference f.interval n) (length-map gs (nominal z) ∙ sym (progression-length o.reference f.interval n))
              (λ k h.
              let h2 : k < n = rw (length-map gs (nominal z)) at h in
              let q : nominal z (nth gs k) ≡ o.reference + k * f.interval = omega (arith, obeys_at k h2) in
              get_or-map (nominal z) gs k blank ∙ q ∙ sym (progression-at o.reference f.interval n k (nominal z blank) h2));
        }

-- where every start lies in the cycle, the first nominal time is below the interval
pub round_early : (z c : ℕ) (gs : List Grant) (f : Flow) (t : ℕ) → Round z c gs f t → All (λ r. r.start < c) gs → t < z + f.interval
round_early z c gs f t o a = go (length gs) refl
  where
    go : (n : ℕ) → length gs ≡ n → t < z + f.interval
    go zero e = absurd (omega (arith, o.granted))
    go (suc m) e =
        let h : m < length gs = omega arith in
        let p = round-at z c gs f t o m h in
        let s = all_get_d (λ r. r.start < c) blank gs a m h in
        omega (arith, p.0, o.fills, ap (λ (x : ℕ). x * f.interval) e)
