-- Numbers as they come are never used twice. Assumes nothing.
use Rattle.std.proofs.Common.{◌≡◌, true, not, List, [], ◌∷◌, ℕ, suc, ◌<◌, arith, eqb, ne_eqb}
use Rattle.logic.specs.Lists.{All}
use Rattle.logic.proofs.Members.{all_imp, all-every}
use Rattle.flows.specs.declared.flow.Flow.{Flow}
use Rattle.refusals.specs.declared.Refusal.TheVariants.{UsedNumber}
use Rattle.refusals.specs.Results.{Passed}
use Rattle.refusals.specs.Tests.{against}
use Rattle.refusals.proofs.Lowest.{Pass, pass_lowest}
use Rattle.lists.specs.Tests.{new_number, test5}
use Rattle.settings.specs.Slots.{Channel, flows_asked}
use Rattle.settings.specs.Units.{Numbered}
use Rattle.settings.proofs.Units.{numbered}

-- a number above those of the flows seen is new
above_new : (n : ℕ) (seen : List Flow) (f : Flow) → All (λ g. g.number < n) seen → f.number ≡ n → new_number seen f ≡ true
unfolding new_number
above_new n seen f below e =
    all-every (λ g. not (eqb g.number f.number)) seen
    (all_imp (λ g. g.number < n) (λ g. not (eqb g.number f.number) ≡ true) seen
    (λ g l. rw (ne_eqb g.number f.number (λ q. omega (arith, q, e, l)))) below)

-- so are all of them, one behind the other
all_new : (n : ℕ) (seen fs : List Flow) → All (λ g. g.number < n) seen → Numbered n fs → Pass (against new_number seen fs)
unfolding against
all_new n seen [] below h = tt
all_new n seen (f ∷ fs) below h = (
  above_new n seen f below h.0,
  all_new (suc n) (f ∷ seen) fs (omega (arith, h.0), all_imp (λ g. g.number < n) (λ g. g.number < suc n) seen (λ g l. omega arith) below) h.1,
)

-- the flows of any run on any channel pass test 5
pub distinct_numbers : (ch : Channel) (s : List ℕ) → test5 (flows_asked ch s) ≡ Passed
unfolding test5
distinct_numbers ch s = let fs = flows_asked ch s in pass_lowest UsedNumber 1 (against new_number [] fs) (all_new 1 [] fs tt (numbered ch s))
