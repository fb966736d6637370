-- The new list, written behind its head: the old records, and the new flow's. Assumes nothing.
use Rattle.std.proofs.Common.{◌≡◌, sym, ap, ap₂, ◌∙◌, List, [], ◌∷◌, ◌++◌, append_assoc, append-nil, ℕ, ◌+◌, ◌-◌, ◌*◌, ◌≤◌, ◌<◌, arith, length, get_or, take, drop, length-append}
use lib.Seq.{sets, length-sets}
use Rattle.logic.proofs.Parts.{part_to_end}
use Rattle.logic.proofs.Rooms.{sets_append}
use Rattle.fields.specs.declared.kind.Kind.TheVariants.{ListHead}
use Rattle.fields.specs.Records.{room_after}
use Rattle.flows.specs.declared.flow.Flow.{Flow}
use Rattle.flows.specs.Flows.{packed_flow}
use Rattle.flows.proofs.Flows.{Keeps}
use Rattle.words.specs.Places.{put_at}
use Rattle.words.proofs.Places.{put-fits}
use Rattle.refusals.specs.Results.{Passed}
use Rattle.lists.specs.Lists.{head_fields, head, count, place, flows_of, records, record_after}
use Rattle.lists.specs.Tests.{tests1to4}
use Rattle.lists.proofs.Records.{length-flows}
use Rattle.lists.proofs.RoundTrip.{length-records, length_list, listed, records_again}
use Rattle.lists.proofs.Writing.{head-written, records-none, records_is, record_written, list_written}
use Rattle.offsets.specs.Adding.{with_new, list_bytes, new_list}

-- the records of one flow more
records-more : (fs : List Flow) (f : Flow) → records (fs ++ (f ∷ [])) ≡ records fs ++ packed_flow f
records-more [] f = records_is f [] ∙ ap (λ (bs : List ℕ). packed_flow f ++ bs) records-none ∙ append-nil (packed_flow f) ∙ ap (λ (bs : List ℕ). bs ++ packed_flow f) (sym records-none)
records-more (g ∷ fs) f =
    records_is g (fs ++ (f ∷ []))
    ∙ ap (λ (bs : List ℕ). packed_flow g ++ bs) (records-more fs f)
    ∙ sym (append_assoc (packed_flow g) (records fs) (packed_flow f))
    ∙ ap (λ (bs : List ℕ). bs ++ packed_flow f) (sym (records_is g fs))

module _ (l : List ℕ) (bytes : (i : ℕ) → get_or l i 0 < 256) (ok : tests1to4 l ≡ Passed) (f : Flow) (rule : Keeps f) where
  -- the head, the old records and the new one are the new list
  pub list_added : (room headed copied out : List ℕ) → list_bytes (flows_of l) f ≤ length room → headed ≡ room_after ListHead (head_fields (count l + 1)) room
      → copied ≡ put_at headed 4 (take (length l - 4) (drop 4 l)) → out ≡ record_after f (count l) copied → out ≡ new_list l f ++ drop (length (new_list l f)) room
  unfolding list_bytes new_list with_new
  list_added room headed copied out h a b c =
      let fs = flows_of l in
      let new = fs ++ (f ∷ []) in
      let L = listed l ok in
      let n : length new ≡ count l + 1 = omega (arith, length-append fs (f ∷ []), length-flows l) in
      let old : records fs ≡ take (length l - 4) (drop 4 l) = records_again l bytes ok ∙ sym (part_to_end 4 l) in
      let size : length (records fs) ≡ 6 * count l = length-records fs ∙ ap (λ (k : ℕ). 6 * k) (length-flows l) in
      let a' : headed ≡ sets room 0 (head (count l + 1)) = a ∙ head-written (count l + 1) room (omega (arith, L.most)) (omega (arith, n)) in
      let b' : copied ≡ sets headed 4 (records fs) =
      b ∙ ap (put_at headed 4) (sym old) ∙ (put-fits 4 (records fs) headed (omega (arith, n, size, ap length a', length-sets room 0 (head (count l + 1))))).1 in
      let c' : out ≡ sets copied (place (count l)) (packed_flow f) =
      c ∙ record_written f (count l) copied rule (omega (arith, n, ap length b', length-sets headed 4 (records fs), ap length a', length-sets room 0 (head (count l + 1)))) in
      let behind : place (count l) ≡ 4 + length (records fs) = omega (arith, size) in
      c'
      ∙ ap₂ (λ (r : List ℕ) (k : ℕ). sets r k (packed_flow f)) b' behind
      ∙ sym (sets_append headed 4 (records fs) (packed_flow f))
      ∙ ap₂ (λ (r bs : List ℕ). sets r 4 bs) (a' ∙ ap (λ (k : ℕ). sets room 0 (head k)) (sym n)) (sym (records-more fs f))
      ∙ list_written new room (omega (arith, length_list new, n))
