-- What the code's own parts answer: two facts at once. Assumes nothing.
use Rattle.std.specs.Prelude.{List, ℕ, ◌*◌}
use Rattle.logic.specs.Lists.{sum}
use Rattle.flows.specs.declared.flow.Flow.{Flow}
use Rattle.facts.specs.declared.Span.{Span}
use Rattle.facts.specs.declared.Totals.{Totals}
use Rattle.lists.specs.Facts.{occupies, cycle, frame, grants_of}

-- cycle and frame
abbrev pub span_of : List Flow → Span
span_of fs = record { cycle = cycle fs; frame = frame fs }

-- grants and load, with the cycle c
abbrev pub totals_of : ℕ → List Flow → Totals
totals_of c fs = record { grants = sum (grants_of c) fs; load = sum (λ f. occupies f * grants_of c f) fs }
