-- What the tests of the old list, and those of the new one, leave of a list that is rounded. Assumes nothing.
use Rattle.std.proofs.Common.{◌≡◌, sym, ◌∙◌, List, ℕ, ◌≤◌, length, arith}
use Rattle.refusals.specs.declared.Refusal.{Refusal}
use Rattle.refusals.specs.Results.{Passed, Refused}
use Rattle.refusals.proofs.Chains.{first_refuses, both_passed}
use Rattle.lists.specs.Lists.{count, flows_of}
use Rattle.lists.specs.Tests.{test4, test5, tests1to4, tests1to5}
use Rattle.lists.proofs.RoundTrip.{Listed, listed}
use Rattle.bases.specs.Tests.{test28, round_tests}
use Rattle.rounding.proofs.Looking.{new_tests}
use Rattle.rounding.proofs.Writing.{new_flows, new_list, new-size}

-- the old list is refused
pub old-refused : (c : ℕ) (l : List ℕ) (r : Refusal) → tests1to5 l ≡ Refused r → round_tests c l ≡ Refused r
unfolding round_tests
old-refused c l r e = sym (first_refuses (tests1to5 l) _ r e)

module _ (l : List ℕ) (old : tests1to5 l ≡ Passed) where
  -- it is what tests 1 to 4 leave of a list
  pub old-listed : Listed l
  unfolding tests1to5
  old-listed = listed l (both_passed (tests1to4 l) (test5 (flows_of l)) old).0

  -- and the new list has as many bytes
  pub as_long : (c : ℕ) → length l ≡ length (new_list c l)
  as_long c = old-listed.exactly ∙ sym (new-size c l)

  -- so it can be written into as many
  pub ready : (c n : ℕ) → new_tests c (flows_of l) ≡ Passed → length l ≤ n
      → (count l ≤ 128) × (test4 (new_flows c l) ≡ Passed) × (length (new_list c l) ≤ n)
  ready c n new h = (old-listed.most, (both_passed (test28 c (flows_of l)) _ new).1, omega (arith, h, as_long c))
