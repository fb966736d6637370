-- Demand 2 in bytes: the check passes exactly the lawful tables. Assumes nothing.
use mathlib.Core.Path.{◌≡◌}
use mathlib.Core.Bool.{◌&&◌}
use mathlib.Core.Logic.{◌↔◌}
use mathlib.Core.List.{List}
use Prim.Native.Nat.{ℕ}
use lib.Dec.{eqb}
use borrow.Author.Tests.{eqb-true, eq-eqb}
use Rattle.logic.proofs.Tests.{and_both}
use Rattle.refusals.specs.declared.Refusal.TheVariants.{OtherCycle}
use Rattle.refusals.specs.Results.{Passed}
use Rattle.refusals.specs.Tests.{◌⟫◌}
use Rattle.refusals.proofs.Chains.{both_passed, unless_passed}
use Rattle.lists.specs.Lists.{flows_of}
use Rattle.lists.specs.Facts.{cycle, frame}
use Rattle.lists.specs.Tests.{tests1to7}
use Rattle.lists.proofs.Accepted.{accepted}
use Rattle.tables.specs.Tables.{cycle_of, frame_of, grants_of}
use Rattle.tables.specs.Form.{test11, test12, form_tests}
use Rattle.law.specs.Check.{test13, tests14to18, law_tests, check}
use Rattle.law.specs.Lawful.{Lawful}
use Rattle.law.proofs.Reading.{reads12}
use Rattle.law.proofs.CheckIsLaw.{check_is_law}

-- the parts of the check, each passed
pub record Parts (l t : List ℕ) : Type 0 where
  pub list : tests1to7 l ≡ Passed
  pub form : form_tests t ≡ Passed
  pub belongs : test13 (flows_of l) t ≡ Passed
  pub rules : tests14to18 (flows_of l) (grants_of t) ≡ Passed

module _ (l t : List ℕ) where
  -- the check passes exactly where each part does
  pub check_parts : (check l t ≡ Passed) ↔ Parts l t
  unfolding check law_tests
  check_parts = (
    λ e.
        let a = both_passed (tests1to7 l) (form_tests t ⟫ law_tests (flows_of l) t) e in
        let b = both_passed (form_tests t) (law_tests (flows_of l) t) a.1 in
        let c = both_passed (test13 (flows_of l) t) (tests14to18 (flows_of l) (grants_of t)) b.1 in
        record { list = a.0; form = b.0; belongs = c.0; rules = c.1 },
    λ p. rw (p.list, p.form, p.belongs, p.rules),
  )

  -- test 13 says that cycle and frame are the list's
  reads13 : (test13 (flows_of l) t ≡ Passed) ↔ ((cycle_of t ≡ cycle (flows_of l)) × (frame_of t ≡ frame (flows_of l)))
  unfolding test13
  reads13 =
      let c = eqb (cycle_of t) (cycle (flows_of l)) in
      let φ = eqb (frame_of t) (frame (flows_of l)) in (
        λ e.
            let b = and_both c φ (unless_passed (c && φ) OtherCycle e) in
            (eqb-true (cycle_of t) (cycle (flows_of l)) b.0, eqb-true (frame_of t) (frame (flows_of l)) b.1),
        λ b. rw (eq-eqb (cycle_of t) (cycle (flows_of l)) b.0, eq-eqb (frame_of t) (frame (flows_of l)) b.1),
      )

  -- the starts of a table of the right form rise
  form_rises : form_tests t ≡ Passed → test12 (grants_of t) ≡ Passed
  unfolding form_tests
  form_rises e = (both_passed (test11 t) (test12 (grants_of t)) e).1

  -- the check passes exactly the lawful tables
  pub check_is_lawful : (check l t ≡ Passed) ↔ Lawful l t
  check_is_lawful = (
    λ e.
        let p = check_parts.0 e in
        let b = reads13.0 p.belongs in
        let w = (check_is_law (flows_of l) (accepted l p.list) (grants_of t)).0 (form_rises p.form, p.rules) in
        record { list = p.list; form = p.form; same_cycle = b.0; same_frame = b.1; law = w.1; inside = w.2 },
    λ w.
        let r = (reads12 (grants_of t)).0 (form_rises w.form) in
        check_parts.1 (record {
          list = w.list;
          form = w.form;
          belongs = reads13.1 (w.same_cycle, w.same_frame);
          rules = ((check_is_law (flows_of l) (accepted l w.list) (grants_of t)).1 (r, w.law, w.inside)).1;
        }),
  )
