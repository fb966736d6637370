-- What the code's own parts say of the tests. Assumes nothing.
use mathlib.Core.Path.{◌≡◌, sym, ap, ◌∙◌}
use mathlib.Core.Bool.{Bool, true, false}
use mathlib.Core.List.{List}
use Prim.Native.Nat.{ℕ}
use Rattle.refusals.specs.declared.Refusal.TheVariants.{Head}
use Rattle.refusals.specs.Results.{Checked, Passed, Refused}
use Rattle.refusals.specs.Tests.{◌⟫◌}
use Rattle.refusals.proofs.Chains.{unless_yes, unless_no, chain_assoc}
use Rattle.lists.specs.Lists.{flows_of}
use Rattle.lists.specs.Tests.{test2, new_number, test5, related_interval, test6, test7, tests1to4, tests1to7}
use Rattle.accepting.specs.Parts.{headed}
use Rattle.pairing.specs.Parts.{pair_tests}

-- test 2, of a head that is or is not that of a list
module _ (l : List ℕ) (b : Bool) (e : b ≡ headed l) where
  pub other-head : b ≡ false → test2 l ≡ Refused Head
  unfolding test2
  other-head n = unless_no (headed l) Head (sym e ∙ n)

  pub list_head : b ≡ true → test2 l ≡ Passed
  unfolding test2
  list_head y = unless_yes (headed l) Head (sym e ∙ y)

-- tests 5 and 6 between those before and test 7
pub in_order_lem : (l : List ℕ) → tests1to7 l ≡ (tests1to4 l ⟫ (pair_tests (flows_of l) ⟫ test7 (flows_of l)))
unfolding tests1to7 test5 new_number test6 related_interval
in_order_lem l = ap (λ (c : Checked). tests1to4 l ⟫ c) (sym (chain_assoc (test5 (flows_of l)) (test6 (flows_of l)) (test7 (flows_of l))))
