-- Flows to a list and back, and a list to its flows and back. Assumes nothing.
use mathlib.Core.Path.{◌≡◌, refl, sym, ap, ap₂, ◌∙◌}
use mathlib.Core.Bool.{true}
use mathlib.Core.List.{List, [], ◌∷◌, ◌++◌}
use Prim.Native.Nat.{ℕ, zero, suc, ◌+◌, ◌*◌, ◌≤◌, ◌<◌}
use native.Mathlib.Omega.{arith}
use lib.Dec.{lit<}
use lib.ListN.{length, get_or, take, drop, length-append, length-drop, take-append-drop}
use lib.Seq.{drop_at, drop-drop, get_or-drop}
use Rattle.logic.specs.Lists.{All}
use Rattle.logic.proofs.Members.{all_imp}
use Rattle.fields.specs.declared.kind.Kind.TheVariants.{ListHead}
use Rattle.flows.specs.declared.flow.Flow.{Flow}
use Rattle.flows.specs.Flows.{keeps, flow_of, packed_flow}
use Rattle.fields.proofs.Records.{length-packed, values-packed, values_fit, packed_front}
use Rattle.fields.proofs.Packed.{four-values}
use Rattle.flows.proofs.Flows.{keeps_is, length-packed_flow, flow-packed, packed_flow_lem}
use Rattle.fields.proofs.Runs.{run, entries, Again, length_run, entries-run, run-entries}
use Rattle.refusals.specs.Results.{Passed}
use Rattle.refusals.proofs.Chains.{both_passed, passed_both}
use Rattle.lists.specs.Lists.{head_fields, head, head_of, count, place, flow_at, flows_from, flows_of, records, list_of}
use Rattle.lists.specs.Tests.{test1, test2, test3, test1exact, test4, tests1to4}
use Rattle.lists.proofs.Records.{length-flows}
use Rattle.lists.proofs.Verdicts.{Headed, long, list_head, head_passed, few, few_passed, exact, exact_passed, kept_exactly}

-- ---- a list's records are a run of records of 6 bytes

-- the next record stands 6 bytes on
next_place : (l : List ℕ) (i : ℕ) → drop 6 (drop (place i) l) ≡ drop (place (suc i)) l
next_place l i = let e : place i + 6 ≡ place (suc i) = omega arith in drop-drop 6 (place i) l ∙ ap (λ (p : ℕ). drop p l) e

flows-entries : (l : List ℕ) (i n : ℕ) → flows_from l i n ≡ entries 6 flow_of n (drop (place i) l)
unfolding flows_from flow_at
flows-entries l i zero = refl
flows-entries l i (suc n) =
    ap (λ (fs : List Flow). flow_of (drop (place i) l) ∷ fs) (flows-entries l (suc i) n ∙ ap (entries 6 flow_of n) (sym (next_place l i)))

records-run : (fs : List Flow) → records fs ≡ run packed_flow fs
unfolding records
records-run [] = refl
records-run (f ∷ fs) = ap (λ (bs : List ℕ). packed_flow f ++ bs) (records-run fs)

pub length-records : (fs : List Flow) → length (records fs) ≡ 6 * length fs
length-records fs = ap length (records-run fs) ∙ length_run 6 packed_flow length-packed_flow fs

pub length-head : (n : ℕ) → length (head n) ≡ 4
unfolding head
length-head n = length-packed ListHead (head_fields n)

pub length_list : (fs : List Flow) → length (list_of fs) ≡ place (length fs)
unfolding list_of
length_list fs = length-append (head (length fs)) (records fs) ∙ omega (arith, length-head (length fs), length-records fs)

-- ---- flows to a list and back

-- 1 to 128 flows that keep their rule
module _ (fs : List Flow) (some : 1 ≤ length fs) (most : length fs ≤ 128) (ruled : All (λ f. keeps f ≡ true) fs) where
  head_back : head_of (list_of fs) ≡ head_fields (length fs)
  unfolding head_of list_of head
  head_back = values-packed ListHead (head_fields (length fs)) (records fs) (lit< tt, (lit< tt, (lit< tt, (omega arith, (lit< tt, (lit< tt, tt))))))

  head-value : (k : ℕ) → get_or (head_of (list_of fs)) k 0 ≡ get_or (head_fields (length fs)) k 0
  head-value k = ap (λ (vs : List ℕ). get_or vs k 0) head_back

  count_back : count (list_of fs) ≡ length fs
  unfolding count
  count_back = head-value 3

  records-behind : drop 4 (list_of fs) ≡ run packed_flow fs
  unfolding list_of
  records-behind = drop_at (head (length fs)) (records fs) 4 (length-head (length fs)) ∙ records-run fs

  pub flows_back : flows_of (list_of fs) ≡ fs
  unfolding flows_of
  flows_back =
      ap (flows_from (list_of fs) 0) count_back
      ∙ flows-entries (list_of fs) 0 (length fs)
      ∙ ap (entries 6 flow_of (length fs)) records-behind
      ∙ entries-run 6 packed_flow length-packed_flow flow_of fs
      (all_imp (λ f. keeps f ≡ true) (λ f. (rest : List ℕ) → flow_of (packed_flow f ++ rest) ≡ f) fs (λ f k rest. flow-packed f rest (keeps_is f k)) ruled)

  pub list_passes : tests1to4 (list_of fs) ≡ Passed
  unfolding tests1to4 test4
  list_passes =
      let l = list_of fs in
      let n : length l ≡ place (count l) = length_list fs ∙ ap place (sym count_back) in
      passed_both (test1 l) _ (long l (omega arith))
      (passed_both (test2 l) _ (list_head l (head-value 0, head-value 1, head-value 2))
      (passed_both (test3 (count l)) _ (few (count l) (omega (arith, count_back), omega (arith, count_back)))
      (passed_both (test1exact l) _ (exact l n) ((kept_exactly (flows_of l)).1 (rw flows_back ruled)))))

-- ---- a list to its flows and back

-- what tests 1 to 4 leave
pub record Listed (l : List ℕ) : Type 0 where
  pub headed : Headed l
  pub some : 1 ≤ count l
  pub most : count l ≤ 128
  pub exactly : length l ≡ place (count l)
  pub ruled : All (λ f. keeps f ≡ true) (flows_of l)

pub listed : (l : List ℕ) → tests1to4 l ≡ Passed → Listed l
unfolding tests1to4 test4
listed l e =
    let a = both_passed (test1 l) _ e in
    let b = both_passed (test2 l) _ a.1 in
    let c = both_passed (test3 (count l)) _ b.1 in
    let d = both_passed (test1exact l) _ c.1 in
    let n = few_passed (count l) c.0 in
    record {
      headed = head_passed l b.0;
      some = n.0;
      most = n.1;
      exactly = exact_passed l d.0;
      ruled = (kept_exactly (flows_of l)).0 d.1;
    }

module _ (l : List ℕ) (b : (i : ℕ) → get_or l i 0 < 256) where
  -- a record is written again as it was read
  again : (i n : ℕ) → place i + 6 * n ≤ length l → Again 6 packed_flow flow_of n (drop (place i) l)
  again i zero h = tt
  again i (suc n) h =
      let s = drop (place i) l in
      let whole : 6 ≤ length s = simp length-drop (omega arith) in
      (packed_flow_lem s whole (λ j. rw (get_or-drop (place i) l j 0) (b (place i + j))), rw (next_place l i) (again (suc i) n (omega arith)))

  module _ (e : tests1to4 l ≡ Passed) where
    known : Listed l
    known = listed l e

    head_fields_lem : head_fields (count l) ≡ head_of l
    unfolding count head_of
    head_fields_lem =
        let is = known.headed in
        rw (is.0, is.1, is.2) at (four-values 4 4 8 16 (head_of l) (values_fit ListHead l (omega (arith, known.exactly))))

    head_again : head (length (flows_of l)) ≡ take 4 l
    unfolding head head_of
    head_again = rw (length-flows l, head_fields_lem) (packed_front ListHead l (omega (arith, known.exactly)) b)

    pub records_again : records (flows_of l) ≡ drop 4 l
    unfolding flows_of
    records_again =
        records-run (flows_of l)
        ∙ ap (run packed_flow) (flows-entries l 0 (count l))
        ∙ run-entries 6 packed_flow length-packed_flow flow_of (count l) (drop 4 l) (simp length-drop (omega (arith, known.exactly))) (again 0 (count l) (omega (arith, known.exactly)))

    pub list_back : list_of (flows_of l) ≡ l
    unfolding list_of
    list_back = ap₂ (λ (x y : List ℕ). x ++ y) head_again records_again ∙ take-append-drop 4 l
