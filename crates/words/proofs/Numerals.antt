-- The numeral of a number below 10,000 is the number in decimal. Assumes nothing.
use mathlib.Core.Path.{◌≡◌, sym, ap, ◌∙◌}
use mathlib.Core.Bool.{true, not}
use mathlib.Core.List.{List}
use Prim.Native.Nat.{ℕ, ◌<◌}
use native.Mathlib.Omega.{arith}
use lib.ListN.{length, get_or}
use borrow.Author.Tests.{ne_eqb}
use Rattle.logic.proofs.Tests.{by_lt}
use Rattle.words.specs.Numerals.{Numeral}
use Rattle.words.specs.Numbers.{formed}
use Rattle.words.specs.Decimals.{decimal}
use Rattle.words.proofs.Numbers.{formed-one, formed-more, formed_some, formed-le, value_small}
use Rattle.words.proofs.Decimals.{lead, decimal-digits, decimal-formed, value-decimal, decimal-value}

-- it passes the test of form
numeral-formed : (v : ℕ) (ds : List ℕ) → Numeral v ds → formed ds ≡ true
numeral-formed v ds n =
    by_lt 1 (length ds) (λ h. formed-more ds h n.few ∙ ap not (ne_eqb (get_or ds 0 0) 48 (n.lead h)))
    (λ h. formed-one ds (omega (arith, n.some)))

-- a numeral says a number below 10,000 and is that number in decimal
pub numeral-decimal : (v : ℕ) (ds : List ℕ) → Numeral v ds → (v < 10000) × (ds ≡ decimal v)
numeral-decimal v ds n = (
  omega (arith, value_small ds n.decimal n.few, n.says),
  sym (decimal-value ds n.decimal (numeral-formed v ds n)) ∙ ap decimal n.says,
)

-- and each such number in decimal is its numeral
pub decimal-numeral : (v : ℕ) → v < 10000 → Numeral v (decimal v)
decimal-numeral v small =
    let f = decimal-formed v small in
    let few = formed-le (decimal v) f in
    record {
      decimal = decimal-digits v;
      some = formed_some (decimal v) f;
      few = few;
      lead = λ l. lead (decimal v) l few f;
      says = value-decimal v small;
    }
