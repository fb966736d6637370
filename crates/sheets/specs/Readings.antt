-- What the lines of a sheet say, and the flows that they give. Assumes nothing.
use Rattle.std.specs.Prelude.{ℕ, ◌+◌, Bool, true, false, cond, ◌&&◌, Option, Some, None, List, map, eqb, length, drop}
use Rattle.flows.specs.declared.flow.Flow.{Flow}
use Rattle.flows.specs.Flows.{no_flow}
use Rattle.words.specs.Words.{starts}
use Rattle.words.specs.Numbers.{number_after}
use Rattle.sheets.specs.Texts.{flow, size, every, jitter, feed}
use Rattle.sheets.specs.Lines.{lines}

-- what follows a number that is found, with the place behind it
abbrev pub found : {A : Type 0} → Option (ℕ × ℕ) → (ℕ → ℕ → Option A) → Option A
found (Some n) next = next n.0 n.1
found None next = None

-- the flow, where only a line feed is left
unfoldable pub ended : ℕ → List ℕ → Flow → Option Flow
ended at l f = cond (starts feed (drop at l) && eqb (length l) (at + 1)) (Some f) None

-- the flow that a line says: the four words in order, a number behind each, and a line feed; a bad line says none
unfoldable pub read : List ℕ → Option Flow
read l =
    found (number_after 0 flow l) (λ n a.
    found (number_after a size l) (λ z b.
    found (number_after b every l) (λ i c.
    found (number_after c jitter l) (λ j d.
    ended d l (record { number = n; size = z; interval = i; jitter = j })))))

-- the line is of the form
abbrev pub of_form : Option Flow → Bool
of_form (Some f) = true
of_form None = false

-- its flow; of a bad line zeros, which break the rule
abbrev pub flow_in : Option Flow → Flow
flow_in (Some f) = f
flow_in None = no_flow

-- what the sheet's lines say
unfoldable pub readings : List ℕ → List (Option Flow)
readings s = map read (lines s)

-- "line n becomes record n": the flows of the lines
unfoldable pub flows_in : List ℕ → List Flow
flows_in s = map flow_in (readings s)
