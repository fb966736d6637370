-- The records of the rounded flows written one behind the other. Assumes nothing.
use Rattle.std.proofs.Common.{◌≡◌, refl, sym, ap, ◌∙◌, true, List, [], ◌∷◌, ◌++◌, ℕ, ◌+◌, ◌≤◌, ◌<◌, length, drop, drop_of_length-le, arith}
use lib.ListN.{length-map}
use lib.Seq.{sets}
use Rattle.logic.specs.Lists.{All}
use Rattle.logic.proofs.Indices.{opens}
use Rattle.fields.specs.declared.kind.Kind.TheVariants.{ListHead}
use Rattle.fields.specs.Records.{room_after}
use Rattle.flows.specs.declared.flow.Flow.{Flow}
use Rattle.flows.specs.Flows.{no_flow, keeps}
use Rattle.flows.proofs.Flows.{keeps_is}
use Rattle.refusals.specs.Results.{Passed}
use Rattle.lists.specs.Lists.{head_fields, head, place, count, flow_at, flows_of, records, list_of, record_after}
use Rattle.lists.specs.Tests.{test4}
use Rattle.lists.proofs.Records.{length-flows, flow_is}
use Rattle.lists.proofs.RoundTrip.{length_list}
use Rattle.lists.proofs.Verdicts.{kept_exactly}
use Rattle.lists.proofs.Writing.{head-written, records-none, record_next, list_written}
use Rattle.bases.specs.Rounding.{rounded_flow, rounded_flows}

-- the rounded flows of a list
abbrev pub new_flows : ℕ → List ℕ → List Flow
new_flows c l = rounded_flows c (flows_of l)

-- and their list
abbrev pub new_list : ℕ → List ℕ → List ℕ
new_list c l = list_of (new_flows c l)

-- they are as many
as_many : (c : ℕ) (l : List ℕ) → length (new_flows c l) ≡ count l
unfolding rounded_flows
as_many c l = length-map (flows_of l) (rounded_flow c) ∙ length-flows l

-- the new list has a place for each
pub new-size : (c : ℕ) (l : List ℕ) → length (new_list c l) ≡ place (count l)
new-size c l = length_list (new_flows c l) ∙ ap place (as_many c l)

-- the records from i on are left to be written, where the head stands
pub record WriteAt (c : ℕ) (l headed : List ℕ) (i : ℕ) (room : List ℕ) : Type 0 where
  pub same : length room ≡ length headed
  pub fits : place (count l) ≤ length headed
  pub kept : All (λ f. keeps f ≡ true) (rounded_flows c (drop i (flows_of l)))
  pub writes : sets room (place i) (records (rounded_flows c (drop i (flows_of l)))) ≡ sets headed 4 (records (new_flows c l))

module _ (c : ℕ) (l before : List ℕ) (roomy : length (new_list c l) ≤ length before) where
  -- at the start all are
  pub write_start : (headed : List ℕ) → length headed ≡ length before → test4 (new_flows c l) ≡ Passed → WriteAt c l headed 0 headed
  write_start headed s passed =
      record { same = refl; fits = omega (arith, roomy, new-size c l); kept = (kept_exactly (new_flows c l)).0 passed; writes = refl }

  -- the head is written, and so are all records
  pub write_end : count l ≤ 128 → (n : ℕ) → n ≡ count l → (headed : List ℕ) → headed ≡ room_after ListHead (head_fields n) before
      → (i : ℕ) (room : List ℕ) → WriteAt c l headed i room → count l ≤ i → room ≡ new_list c l ++ drop (length (new_list c l)) before
  unfolding rounded_flows
  write_end few n e headed w i room at h =
      let all : length (flows_of l) ≤ i = omega (arith, h, length-flows l) in
      let none : rounded_flows c (drop i (flows_of l)) ≡ [] = ap (rounded_flows c) (drop_of_length-le (flows_of l) all) in
      let put : headed ≡ sets before 0 (head n) = w ∙ head-written n before (omega (arith, few)) (omega (arith, new-size c l, roomy)) in
      ap (sets room (place i)) (sym (ap records none ∙ records-none))
      ∙ at.writes
      ∙ ap (λ (r : List ℕ). sets r 4 (records (new_flows c l))) (put ∙ ap (λ (k : ℕ). sets before 0 (head k)) (e ∙ sym (as_many c l)))
      ∙ list_written (new_flows c l) before roomy

-- record i is written
pub write_next : (c : ℕ) (l headed : List ℕ) (i : ℕ) (room : List ℕ) → WriteAt c l headed i room → i < count l
    → (f g : Flow) → f ≡ flow_at l i → g ≡ rounded_flow c f → (new : List ℕ) → length new ≡ length room → new ≡ record_after g i room → WriteAt c l headed (i + 1) new
unfolding rounded_flows
write_next c l headed i room at h f g q e new s w =
    let fs = flows_of l in
    let rest : List Flow = rounded_flows c (drop (i + 1) fs) in
    let first = opens fs no_flow f i (omega (arith, h, length-flows l)) (flow_is l i f h q) in
    let next : rounded_flows c (drop i fs) ≡ g ∷ rest = ap (rounded_flows c) first ∙ ap (λ (x : Flow). x ∷ rest) (sym e) in
    let p = rw next at at.kept in
    record {
      same = s ∙ at.same;
      fits = at.fits;
      kept = p.1;
      writes =
          ap (λ (r : List ℕ). sets r (place (i + 1)) (records rest)) w
          ∙ record_next g rest i room (keeps_is g p.0) (omega (arith, h, at.fits, at.same))
          ∙ ap (λ (gs : List Flow). sets room (place i) (records gs)) (sym next)
          ∙ at.writes;
    }
