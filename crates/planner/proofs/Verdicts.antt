-- Each way that planning can end: the first of tests 1 to 9 that finds fault, or what test 10 and the table come to. Assumes nothing.
use mathlib.Core.Path.{◌≡◌, refl, sym, ap, ◌∙◌}
use mathlib.Core.List.{List}
use Prim.Native.Nat.{ℕ, ◌≤◌, ◌<◌}
use lib.Dec.{leb}
use lib.ListN.{length}
use borrow.Author.Tests.{le-leb, lt-leb}
use Rattle.std.proofs.Common.{Err}
use Rattle.flows.specs.declared.flow.Flow.{Flow}
use Rattle.refusals.specs.declared.Refusal.{Refusal}
use Rattle.refusals.specs.declared.Refusal.TheVariants.{Overload, Room}
use Rattle.refusals.specs.Results.{Checked, Passed, Refused, Written}
use Rattle.refusals.specs.Tests.{◌⟫◌}
use Rattle.refusals.specs.Answers.{answer, written}
use Rattle.refusals.proofs.Chains.{first_refuses, first_passes, unless_yes, unless_no}
use Rattle.refusals.proofs.Rooms.{ends-refused}
use Rattle.lists.specs.Lists.{flows_of}
use Rattle.lists.specs.Facts.{cycle, grants, load}
use Rattle.lists.specs.Tests.{tests1to7}
use Rattle.tables.specs.Tables.{place}
use Rattle.planner.specs.Plan.{test8, test9, test10, plan_tests, plan_table, plan_answer, plan_room}

module _ (l room : List ℕ) where
  abbrev fs : List Flow
  fs = flows_of l

  refuses : (r : Refusal) → Refused r ≡ plan_tests l (length room) → (Err r ≡ plan_answer l (length room)) × (room ≡ plan_room l room)
  unfolding plan_answer plan_room
  refuses r e = ends-refused (plan_tests l (length room)) (plan_table l) room r (sym e)

  -- tests 1 to 7
  pub plan-refused : (r : Refusal) → tests1to7 l ≡ Refused r → (Err r ≡ plan_answer l (length room)) × (room ≡ plan_room l room)
  unfolding plan_tests
  plan-refused r e = refuses r (first_refuses (tests1to7 l) (test8 fs ⟫ test9 fs (length room) ⟫ test10 fs) r e)

  module _ (passed : tests1to7 l ≡ Passed) where
    behind : (c : Checked) → c ≡ (test8 fs ⟫ test9 fs (length room) ⟫ test10 fs) → c ≡ plan_tests l (length room)
    unfolding plan_tests
    behind c = first_passes (tests1to7 l) (test8 fs ⟫ test9 fs (length room) ⟫ test10 fs) c passed

    -- test 8
    pub plan_overload : cycle fs < load fs → (Err Overload ≡ plan_answer l (length room)) × (room ≡ plan_room l room)
    unfolding test8
    plan_overload h =
        let t = unless_no (leb (load fs) (cycle fs)) Overload (lt-leb (load fs) (cycle fs) h) in
        refuses Overload (behind (Refused Overload) (first_refuses (test8 fs) (test9 fs (length room) ⟫ test10 fs) Overload t))

    module _ (fits : load fs ≤ cycle fs) where
      behind8 : (c : Checked) → c ≡ (test9 fs (length room) ⟫ test10 fs) → c ≡ plan_tests l (length room)
      unfolding test8
      behind8 c e =
          let t = unless_yes (leb (load fs) (cycle fs)) Overload (le-leb (load fs) (cycle fs) fits) in
          behind c (first_passes (test8 fs) (test9 fs (length room) ⟫ test10 fs) c t e)

      -- test 9
      pub plan_short : length room < place (grants fs) → (Err Room ≡ plan_answer l (length room)) × (room ≡ plan_room l room)
      unfolding test9
      plan_short h =
          let t = unless_no (leb (place (grants fs)) (length room)) Room (lt-leb (place (grants fs)) (length room) h) in
          refuses Room (behind8 (Refused Room) (first_refuses (test9 fs (length room)) (test10 fs) Room t))

      -- test 10 and the table
      pub plan-rest : (a : Written) (room' : List ℕ) → place (grants fs) ≤ length room → a ≡ answer (test10 fs) (plan_table l) (length room)
          → room' ≡ written (test10 fs) (plan_table l) room → (a ≡ plan_answer l (length room)) × (room' ≡ plan_room l room)
      unfolding test9 plan_answer plan_room
      plan-rest a room' h p q =
          let t = unless_yes (leb (place (grants fs)) (length room)) Room (le-leb (place (grants fs)) (length room) h) in
          let e = behind8 (test10 fs) (first_passes (test9 fs (length room)) (test10 fs) (test10 fs) t refl) in
          (p ∙ ap (λ (t : Checked). answer t (plan_table l) (length room)) e, q ∙ ap (λ (t : Checked). written t (plan_table l) room) e)
