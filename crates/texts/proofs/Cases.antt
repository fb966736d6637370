-- Document 01's case A as the program prints it, and refusals, computed from the definitions. Assumes nothing.
use mathlib.Core.Path.{◌≡◌, refl}
use mathlib.Core.List.{List, [], ◌∷◌}
use Prim.Native.Nat.{ℕ}
use Rattle.logic.specs.Lists.{All, sum}
use Rattle.words.specs.Characters.{bytes}
use Rattle.words.specs.Decimals.{digits}
use Rattle.words.specs.Whole.{figures_to, figures, numeral}
use Rattle.flows.specs.declared.flow.Flow.{Flow}
use Rattle.fields.specs.Records.{packed, values_of}
use Rattle.flows.specs.Flows.{flow_of, packed_flow}
use Rattle.refusals.specs.declared.Refusal.TheVariants.{Overload, NoFrame, Line}
use Rattle.lists.specs.Lists.{head as head_of_list, head_of as list_head_of, count as list_count, flow_at, flows_from, flows_of, records as list_records, list_of}
use Rattle.lists.specs.Facts.{occupies, cycle, grants_of, load}
use Rattle.tables.specs.declared.packed.Grant.{Grant}
use Rattle.tables.specs.Tables.{head, head_of, count, cycle_of, frame_of, values_at, grant_at, grants_from, grants_of as grants_in, records, table_of}
use Rattle.texts.specs.Texts.{piece, head_line, grant_line, grant_lines, plan_text, refusal_line, refusal_text}

-- number, size, interval, jitter
abbrev flow : ℕ → ℕ → ℕ → ℕ → Flow
flow n s i j = record { number = n; size = s; interval = i; jitter = j }

-- flow, start, late
abbrev grant : ℕ → ℕ → ℕ → Grant
grant f s l = record { flow = f; start = s; late = l }

-- a list and a table as bytes, and the text of the plan; a refusal's text and its line
abbrev texts : List (List ℕ × List ℕ)
texts =
    -- case A
    (
      plan_text (list_of (flow 1 1 4 2 ∷ flow 2 2 8 0 ∷ flow 3 3 8 0 ∷ [])) (table_of 8 4 (grant 1 0 0 ∷ grant 2 1 0 ∷ grant 3 3 0 ∷ grant 1 6 2 ∷ [])),
      bytes "cycle 8 frame 4 grants 4 load 7\ngrant 0 flow 1 late 0\ngrant 1 flow 2 late 0\ngrant 3 flow 3 late 0\ngrant 6 flow 1 late 2\n",
    )
    -- the largest numbers of a flow and of a table's head
    ∷ (
      plan_text (list_of (flow 1023 4095 4096 4095 ∷ [])) (table_of 65535 4096 (grant 1023 4095 10 ∷ [])),
      bytes "cycle 65535 frame 4096 grants 1 load 4095\ngrant 4095 flow 1023 late 10\n",
    )
    -- refusals, the last with the most lines that the program reads
    ∷ (refusal_text (NoFrame 2), bytes "refused 10 at 2\n")
    ∷ (refusal_text Overload, bytes "refused 8 at 0\n")
    ∷ (refusal_text (Line 65536), bytes "refused 20 at 65536\n")
    ∷ []

-- each is the text beside it
pub worked : All (λ c. c.0 ≡ c.1) texts
unfolding sum digits figures_to figures numeral packed values_of flow_of packed_flow head_of_list list_head_of list_count flow_at flows_from flows_of list_records list_of occupies cycle grants_of load head head_of count cycle_of frame_of values_at grant_at grants_from grants_in records table_of piece head_line grant_line grant_lines plan_text refusal_line refusal_text
worked = (refl, (refl, (refl, (refl, (refl, tt)))))
