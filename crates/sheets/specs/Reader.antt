-- A line read where it starts in the sheet, before its end is known, and the records of the lines that are read. Assumes nothing.
use Rattle.std.specs.Prelude.{ℕ, ◌+◌, cond, Option, Some, None, List, ◌≡◌, drop}
use Rattle.std.proofs.lemmas.List.Edits.{sets}
use Rattle.flows.specs.declared.flow.Flow.{Flow}
use Rattle.refusals.specs.Results.{Passed}
use Rattle.lists.specs.Lists.{records}
use Rattle.words.specs.Words.{starts}
use Rattle.words.specs.Numbers.{number_after}
use Rattle.sheets.specs.Texts.{flow, size, every, jitter, feed}
use Rattle.sheets.specs.Readings.{found, flows_in}
use Rattle.sheets.specs.Tests.{sheet_tests}

-- the flow and the place behind its line, where a line feed stands at the place
unfoldable pub ended_at : ℕ → List ℕ → Flow → Option (Flow × ℕ)
ended_at at s f = cond (starts feed (drop at s)) (Some (f, at + 1)) None

-- the flow of the line that starts at a place, and the place behind it: the four words in order, a number behind each, and a
-- line feed; a bad line has none
unfoldable pub line_at : ℕ → List ℕ → Option (Flow × ℕ)
line_at at s =
    found (number_after at flow s) (λ n a.
    found (number_after a size s) (λ z b.
    found (number_after b every s) (λ i c.
    found (number_after c jitter s) (λ j d.
    ended_at d s (record { number = n; size = z; interval = i; jitter = j })))))

-- where the sheet passes, the records of its lines stand in what was `before`, behind the place of a list's head
abbrev pub Recorded : List ℕ → List ℕ → List ℕ → Type 0
Recorded s before after = sheet_tests s ≡ Passed → after ≡ sets before 4 (records (flows_in s))
