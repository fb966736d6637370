-- What the placed layout says of test 10 and of the table. Assumes nothing.
use Rattle.std.proofs.Common.{rules, Result, Ok, Err, MatchResult, IsErrAnd, ◌≡◌, refl, sym, ap, ap₂, ◌∙◌, List, ℕ, ◌/◌, ◌≤◌, arith, length, take}
use native.Mathlib.Nat.{div-eq_of_eq-mul_left}
use Rattle.logic.specs.Lists.{All}
use Rattle.logic.proofs.Members.{all_imp}
use Rattle.fields.specs.declared.kind.Kind.TheVariants.{TableHead}
use Rattle.flows.specs.declared.flow.Flow.{Flow}
use Rattle.fields.specs.Records.{room_after}
use Rattle.refusals.specs.declared.Refusal.TheVariants.{NoFrame}
use Rattle.refusals.specs.declared.Refusal.{Refusal}
use Rattle.refusals.specs.Results.{Passed, Refused}
use Rattle.refusals.specs.Answers.{answer, written as written_room}
use Rattle.refusals.proofs.Rooms.{ends-refused, ends-written}
use Rattle.lists.specs.Lists.{flows_of}
use Rattle.lists.specs.declared.facts.Facts.{Facts}
use Rattle.lists.specs.Facts.{cycle, frame, grants, load, facts_of}
use Rattle.lists.specs.Accepted.{Accepted}
use Rattle.lists.specs.Tests.{tests1to7}
use Rattle.lists.proofs.Accepted.{accepted}
use Rattle.lists.proofs.Cycle.{frame_pos, cycle-fits}
use Rattle.tables.specs.declared.packed.Grant.{Grant}
use Rattle.tables.specs.Tables.{head_fields, place, table_of}
use Rattle.placing.specs.Rule.{Outcome, done, refused, Settled, layout, rows, planned}
use Rattle.placing.proofs.Passes.{planned_done, planned-length, planned-fits}
use Rattle.planner.specs.Finished.{Finished}
use Rattle.tables.specs.Tables.{records_after}
use Rattle.planner.specs.Rows.{Tabled}
use Rattle.planner.specs.Plan.{test10, grants_planned, plan_table}
use Rattle.planner.proofs.Bounds.{frame-present, interval_le}
use Rattle.planner.proofs.Grouping.{no_frame-not-lawful}
use Rattle.tables.proofs.Writing.{table-written}
use Rattle.tables.proofs.Meaning.{Fits, length-table}

-- a list's facts, one by one
pub facts_are : (f : Facts) (fs : List Flow) → f ≡ facts_of fs → (f.cycle ≡ cycle fs) × (f.frame ≡ frame fs) × (f.grants ≡ grants fs) × (f.load ≡ load fs)
unfolding facts_of
facts_are f fs e = (ap (λ (x : Facts). x.cycle) e, ap (λ (x : Facts). x.frame) e, ap (λ (x : Facts). x.grants) e, ap (λ (x : Facts). x.load) e)

-- a list that tests 1 to 7 accept has no more grants than a table
pub few_grants : (l : List ℕ) → tests1to7 l ≡ Passed → grants (flows_of l) ≤ 1024
few_grants l e = (accepted l e).grants_le

-- ---- test 10, both ways

test10-refused : (fs : List Flow) (p : ℕ) → layout fs ≡ refused p → test10 fs ≡ Refused (NoFrame p)
unfolding test10 planned
test10-refused fs p e = let w : planned fs ≡ refused p = rw (e, planned) in rw (w, test10)

module _ (fs : List Flow) (gs : List Grant) (e : planned fs ≡ done gs) where
  test10_passed : test10 fs ≡ Passed
  unfolding test10
  test10_passed = rw (e, test10)

  planned_is : grants_planned fs ≡ gs
  unfolding grants_planned
  planned_is = rw (e, grants_planned)

table_is : (l : List ℕ) (gs : List Grant) → planned (flows_of l) ≡ done gs → plan_table l ≡ table_of (cycle (flows_of l)) (frame (flows_of l)) gs
unfolding plan_table
table_is l gs d = ap (table_of (cycle (flows_of l)) (frame (flows_of l))) (planned_is (flows_of l) gs d)

-- what is answered where a flow has no lawful frame
pub none_lawful : (q : Result Unit ℕ) (m : Result Unit Refusal) (r : Refusal) → MatchResult q (λ x. m ≡ Ok x) (λ p. IsErrAnd m (λ e. e ≡ NoFrame p))
    → m ≡ Err r → (p : ℕ) × (q ≡ Err p) × (r ≡ NoFrame p)
none_lawful (Ok x) m r h e = absurd (search rules)
none_lawful (Err p) m r h e = (p, refl, search rules)

-- ---- what the code leaves

module _ (l room : List ℕ) (ok : Accepted (flows_of l)) (φ : ℕ) (e : φ ≡ frame (flows_of l)) (cs ls ks bs : List ℕ) where
  abbrev fs : List Flow
  fs = flows_of l

  -- no lawful frame
  pub answer-refused : (q : Result Unit ℕ) (p : ℕ) → Finished φ fs (layout fs) q cs ls ks bs → q ≡ Err p
      → (Err (NoFrame p) ≡ answer (test10 fs) (plan_table l) (length room)) × (room ≡ written_room (test10 fs) (plan_table l) room)
  answer-refused q p F a = ends-refused (test10 fs) (plan_table l) room (NoFrame p) (go (layout fs) refl F)
    where
      go : (o : Outcome (List (List Settled))) → layout fs ≡ o → Finished φ fs o q cs ls ks bs → test10 fs ≡ Refused (NoFrame p)
      go (refused n) w h = let z : Err n ≡ Err p = sym h ∙ a in let y : n ≡ p = cc in test10-refused fs p (rw y at w)
      go (done hs) w h = no_frame-not-lawful (sym a ∙ h.0)

  -- the layout that is to be written, of w frames
  pub record Standing (w : ℕ) : Type 0 where
    pub settled : List (List Settled)
    pub laid : planned fs ≡ done (rows φ 0 0 settled)
    pub tabled : Tabled φ fs settled (take w cs) ks bs

  pub answer-standing : (q : Result Unit ℕ) (w : ℕ) → Finished φ fs (layout fs) q cs ls ks bs → q ≡ Ok tt → w ≡ cycle fs / φ → Standing w
  answer-standing q w F a b = go (layout fs) refl F
    where
      go : (o : Outcome (List (List Settled))) → layout fs ≡ o → Finished φ fs o q cs ls ks bs → Standing w
      go (refused n) u h = no_frame-not-lawful (sym h ∙ a)
      go (done hs) u h =
          let S = h.1 in
          let d : planned fs ≡ done (rows φ 0 0 hs) = rw e (planned_done fs hs u) in
          let wide : w ≡ length hs = b ∙ div-eq_of_eq-mul_left (omega (arith, frame_pos fs ok)) (sym h.2) in
          record {
            settled = hs;
            laid = d;
            tabled = record {
              content = rw wide S.content;
              law = S.law;
              stand = S.stand;
              slots = omega (arith, h.2, cycle-fits fs ok);
              records = omega (arith, planned-length fs ok (rows φ 0 0 hs) d, ok.grants_le);
            };
          }

  -- the table stands at the room's front, behind its head
  pub answer-written : (w c n : ℕ) (headed room' : List ℕ) → c ≡ cycle fs → n ≡ grants fs → place (grants fs) ≤ length room → (S : Standing w)
      → headed ≡ room_after TableHead (head_fields n c φ) room → room' ≡ records_after 0 (rows φ 0 0 S.settled) headed
      → (Ok (place n) ≡ answer (test10 fs) (plan_table l) (length room)) × (room' ≡ written_room (test10 fs) (plan_table l) room)
  answer-written w c n headed room' p q h S u r =
      let gs = rows φ 0 0 S.settled in
      let many : n ≡ length gs = q ∙ sym (planned-length fs ok gs S.laid) in
      let t : plan_table l ≡ table_of c φ gs = table_is l gs S.laid ∙ ap₂ (λ (x y : ℕ). table_of x y gs) (sym p) (sym e) in
      let fit : All Fits gs = all_imp _ Fits gs (λ g k. record { flow_lt = k.1; start_lt = omega (arith, k.2, cycle-fits fs ok); late_lt = k.3 }) (planned-fits fs ok gs S.laid) in
      let long : place n ≡ length (plan_table l) = ap place many ∙ sym (ap length t ∙ length-table c φ gs) in
      ends-written (test10 fs) (plan_table l) room (place n) room' (test10_passed fs gs S.laid) (omega arith) long
      (r ∙ ap (records_after 0 gs) u
      ∙ rw (many, t) (table-written c φ gs room fit (omega (arith, ok.grants_le)) (omega (arith, cycle-fits fs ok)) (omega (arith, interval_le fs ok (frame fs) (frame-present fs ok))) (omega arith)))
