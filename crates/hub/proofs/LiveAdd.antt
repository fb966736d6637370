-- LIVE ADD. Document 02, L1: "find the smallest offset from 0 to interval less one at which the flow fits at every one of its grants
-- without moving anyone, all with late 0. Write the new list, with the new flow as its last record, and the new table into two rooms.
-- Demand 2 holds for the new pair. 22 exactly when no such offset exists." Here of all that the statement allows. Assumes nothing.
use mathlib.Core.Path.{◌≡◌, sym, ◌∙◌}
use mathlib.Core.Logic.{◌↔◌}
use mathlib.Core.List.{List}
use Prim.Native.Nat.{ℕ, ◌<◌}
use lib.ListN.{length, take}
use lib.Seq.{take_at}
use Rattle.logic.proofs.Members.{all_imp}
use Rattle.flows.specs.declared.flow.Flow.{Flow}
use Rattle.flows.specs.Flows.{new_flow}
use Rattle.refusals.specs.declared.Refusal.TheVariants.{NoOffset}
use Rattle.std.proofs.Common.{Ok, Err}
use Rattle.refusals.specs.Results.{Passed, Written}
use Rattle.lists.specs.Lists.{flows_of}
use Rattle.lists.specs.Facts.{cycle, grants_of as grants_each}
use Rattle.tables.specs.Tables.{grants_of}
use Rattle.tables.proofs.Meaning.{grants-table}
use Rattle.law.specs.Check.{to, check}
use Rattle.law.specs.Lawful.{Lawful}
use Rattle.law.proofs.Demand.{check_is_lawful}
use Rattle.offsets.specs.Offsets.{new_grants}
use Rattle.offsets.specs.Adding.{new_tests, test9, list_bytes, table_bytes, new_list, new_table_grants, new_table, add_answer}
use Rattle.offsets.proofs.Among.{Prompt, from_prompt}
use Rattle.offsets.proofs.Joining.{length-new_list, length-new_table}
use Rattle.offsets.proofs.Standing.{list_back, old_stand, new_stand, new_held}
use Rattle.offsets.proofs.Adding.{each_passed, answered, offset-smallest, refused_22, refused_none}
use Rattle.hub.specs.Statements.{LiveAdd}
use Rattle.hub.specs.NewPair.{Stands, NewPair}
use Rattle.hub.proofs.Demand1.{add-stops, add_writes}

-- the new list and the new table, as live add's definitions have them
made_pair : (l t : List ℕ) (f : Flow) (n m o : ℕ) → add_answer l t f n m ≡ Ok o → NewPair l t f o (new_list l f) (new_table l t f o)
unfolding new_grants new_table
made_pair l t f n m o e =
    let p = each_passed l t f n m (answered l t f n m o e).0 in
    let least = offset-smallest l t f n m o e in
    let back : grants_of (new_table l t f o) ≡ new_table_grants l t f o = grants-table _ _ _ (new_held l t f p.0 p.1 o least.0) in
    let own : to f.number (grants_of (new_table l t f o)) ≡ new_grants (cycle (flows_of l)) f o = rw back (new_stand l t f p.0 p.1 o) in
    record {
      new_last = list_back l t f p.0 p.1;
      stands =
          record {
            others_stand = rw back (old_stand l t f p.0 p.1 o);
            none_late = rw own (all_imp (Prompt f) (λ g. g.late ≡ 0) (new_grants (cycle (flows_of l)) f o) (λ g a. a.1) (from_prompt f o (grants_each (cycle (flows_of l)) f)));
          };
      own_grants = own;
      passes = (check_is_lawful (new_list l f) (new_table l t f o)).1 least.1;
      below = least.0;
      smallest = least.2;
    }

module _ (l t : List ℕ) (number size interval jitter : ℕ) (a b : List ℕ) (a' b' : List ℕ) where
  -- where live add answers an offset, the new list stands at the front of one room and the new table at the front of the other
  pub new_pair : (o : ℕ) → LiveAdd l t number size interval jitter a b (Ok o) a' b'
      → let f = new_flow number size interval jitter in
      NewPair l t f o (take (list_bytes (flows_of l) f) a') (take (table_bytes (flows_of l) (grants_of t) f) b')
  new_pair o h =
      let f = new_flow number size interval jitter in
      let w = add_writes l t number size interval jitter a b a' b' o h in
      let list-front : take (list_bytes (flows_of l) f) a' ≡ new_list l f = rw w.0 (take_at (new_list l f) _ _ (length-new_list l f)) in
      let table-front : take (table_bytes (flows_of l) (grants_of t) f) b' ≡ new_table l t f o = rw w.1 (take_at (new_table l t f o) _ _ (length-new_table l t f o)) in
      rw (list-front, table-front) (made_pair l t f (length a) (length b) o (sym h.result))

  -- 22 is answered exactly where the old list and table, the new list and both rooms pass and no offset gives a lawful table
  pub no_offset_exactly : (r : Written) → LiveAdd l t number size interval jitter a b r a' b'
      → let f = new_flow number size interval jitter in
      (r ≡ Err NoOffset)
      ↔ ((check l t ≡ Passed) × (new_tests (flows_of l) f ≡ Passed) × (test9 (flows_of l) (grants_of t) f (length a) (length b) ≡ Passed) × ((o : ℕ) → o < interval → Lawful (new_list l f) (new_table l t f o) → ⊥))
  no_offset_exactly r h =
      let f = new_flow number size interval jitter in
      let stops = add-stops l t f (length a) (length b) NoOffset in
      let exactly = refused_22 l t f (length a) (length b) in
      (λ e. exactly.0 (stops.0 (sym h.result ∙ e)), λ p. h.result ∙ stops.1 (exactly.1 p))

  -- and then no table at all that is lawful for the new list leaves everyone where they are, with the new flow's grants not late
  pub no_offset-none : LiveAdd l t number size interval jitter a b (Err NoOffset) a' b'
      → let f = new_flow number size interval jitter in
      (u : List ℕ) → Lawful (new_list l f) u → Stands t f u → ⊥
  no_offset-none h u w s =
      let f = new_flow number size interval jitter in
      refused_none l t f (length a) (length b) ((add-stops l t f (length a) (length b) NoOffset).0 (sym h.result)) u w s.others_stand s.none_late
