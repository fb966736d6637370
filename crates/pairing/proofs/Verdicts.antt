-- Tests 5 and 6 as the code has them, record by record. Assumes nothing.
use mathlib.Core.Path.{◌≡◌, refl, sym, ap, ap₂, ◌∙◌}
use mathlib.Core.Bool.{Bool, true, false, ◌&&◌}
use mathlib.Core.List.{List, [], ◌∷◌, ◌++◌, map}
use Prim.Native.Nat.{ℕ, zero, suc, ◌+◌, ◌≤◌, ◌<◌}
use native.Mathlib.Omega.{arith}
use native.Mathlib.Numerals.{add-one}
use lib.ListN.{length, get_or, drop}
use Rattle.std.specs.List.{list_all, range_with_len}
use Rattle.std.proofs.lemmas.List.Folds.{list_all-append, list_all-map}
use Rattle.std.proofs.lemmas.List.FromFn.{map-range_with_len_more}
use Rattle.logic.specs.Lists.{every}
use Rattle.flows.specs.declared.flow.Flow.{Flow}
use Rattle.flows.specs.Flows.{no_flow}
use Rattle.flows.proofs.Flows.{flow_small}
use Rattle.refusals.specs.declared.Refusal.{Refusal}
use Rattle.refusals.specs.declared.Refusal.TheVariants.{UsedNumber, Unrelated}
use Rattle.refusals.specs.Results.{Checked, Passed, Refused}
use Rattle.refusals.specs.Tests.{◌⟫◌, unless, lowest, against}
use Rattle.refusals.proofs.Walks.{before, walk, walk-next, walk_here, walk_end, walk_more}
use Rattle.lists.specs.Lists.{count, place, flow_at, flows_of}
use Rattle.lists.specs.Tests.{new_number, test5, related_interval, test6}
use Rattle.lists.proofs.Records.{length-flows, flow_is}
use Rattle.pairing.specs.Parts.{new_pair_tests}

-- ---- test 5 or 6, record by record

module _ (refusal : ℕ → Refusal) (ok : List Flow → Flow → Bool) where
  -- the lowest record that does not agree with the earlier ones
  abbrev pub all_tested : List Flow → Checked
  all_tested fs = lowest refusal 1 (against ok [] fs)

  -- the records from i on say what all say: those before pass
  abbrev pub Settled : List Flow → ℕ → Type 0
  Settled fs i = walk refusal ok fs no_flow i ≡ all_tested fs

  module _ (l : List ℕ) (i : ℕ) (s : Settled (flows_of l) i) where
    -- no record is left
    pub settled_end : count l ≤ i → Passed ≡ all_tested (flows_of l)
    settled_end h = walk_end refusal ok (flows_of l) no_flow i (rw (length-flows l) h) ∙ s

    module _ (h : i < count l) (f : Flow) (e : f ≡ flow_at l i) (b : Bool) (a : b ≡ ok (before (flows_of l) no_flow i) f) where
      judged : b ≡ ok (before (flows_of l) no_flow i) (get_or (flows_of l) i no_flow)
      judged = a ∙ ap (ok (before (flows_of l) no_flow i)) (flow_is l i f h e)

      -- record i agrees with the earlier ones
      pub settled-next : b ≡ true → Settled (flows_of l) (i + 1)
      settled-next t = sym (walk-next refusal ok (flows_of l) no_flow i (rw (length-flows l) h) b judged t) ∙ s

      -- or not
      pub settled_here : b ≡ false → Refused (refusal (i + 1)) ≡ all_tested (flows_of l)
      settled_here t = walk_here refusal ok (flows_of l) no_flow i (rw (length-flows l) h) b judged t ∙ s

-- its number has 10 bits, its interval 13
pub record_small : (l : List ℕ) (i : ℕ) → ((flow_at l i).number < 1024) × ((flow_at l i).interval < 8192)
unfolding flow_at
record_small l i = flow_small (drop (place i) l)

-- ---- every earlier record

-- one record more, record i of a list
pub every_more : (ok : Flow → Bool) (l : List ℕ) (i : ℕ) (f : Flow) → i < count l → f ≡ flow_at l i
    → every ok (before (flows_of l) no_flow (i + 1)) ≡ ok f && every ok (before (flows_of l) no_flow i)
unfolding every
every_more ok l i f h e = rw (add-one, ← flow_is l i f h e)

-- the same of the n records from the first on, which the code asks in their order
all_before : (ok : Flow → Bool) (l : List ℕ) (n : ℕ) → n ≤ count l → list_all (λ i. ok (flow_at l i)) (range_with_len 0 n) ≡ every ok (before (flows_of l) no_flow n)
unfolding every
all_before ok l n h = sym (list_all-map ok (flow_at l) (range_with_len 0 n)) ∙ of_flows n h
  where
    swapped : (a b : Bool) → a && (b && true) ≡ b && a
    swapped true true = refl
    swapped true false = refl
    swapped false true = refl
    swapped false false = refl

    of_flows : (n : ℕ) → n ≤ count l → list_all ok (map (flow_at l) (range_with_len 0 n)) ≡ every ok (before (flows_of l) no_flow n)
    of_flows zero h = refl
    of_flows (suc n) h =
        ap (λ (m : ℕ). list_all ok (map (flow_at l) (range_with_len 0 m))) (sym (add-one n))
        ∙ ap (list_all ok) (map-range_with_len_more (flow_at l) 0 n n (omega arith))
        ∙ list_all-append ok (map (flow_at l) (range_with_len 0 n)) (flow_at l n ∷ [])
        ∙ rw (of_flows n (omega arith), ← flow_is l n (flow_at l n) (omega arith) refl) (swapped (every ok (before (flows_of l) no_flow n)) (ok (flow_at l n)))

-- ---- one flow more

-- it is refused where one of the n records does not agree
pub refused_by : (ok : Flow → Bool) (refusal : ℕ → Refusal) (l : List ℕ) (n : ℕ) (b : Bool) → n ≡ count l → b ≡ list_all (λ i. ok (flow_at l i)) (range_with_len 0 n)
    → unless b (refusal (n + 1)) ≡ unless (every ok (before (flows_of l) no_flow (length (flows_of l)))) (refusal (length (flows_of l) + 1))
refused_by ok refusal l n b e q = rw (q, e, length-flows l, all_before ok l (count l) (omega arith))

module _ (fs : List Flow) (f : Flow) where
  -- where the records pass, its tests are those of all
  pub added_pairs : test5 fs ≡ Passed → test6 fs ≡ Passed → new_pair_tests fs f ≡ (test5 (fs ++ (f ∷ [])) ⟫ test6 (fs ++ (f ∷ [])))
  unfolding test5 test6
  added_pairs p q = ap₂ ◌⟫◌ (sym (walk_more no_flow new_number UsedNumber fs f p)) (sym (walk_more no_flow related_interval Unrelated fs f q))
