-- What the code's own parts ask and answer. Assumes nothing.
use Rattle.std.specs.Prelude.{◌≡◌, Bool, true, false, cond, List, [], ◌∷◌, map, ℕ, zero, suc, ◌+◌, ◌%◌, ◌≤◌, ◌<◌, eqb, length, Option, Some, None, Result, Ok, Err}
use Rattle.std.proofs.lemmas.List.Edits.{sets}
use Rattle.logic.specs.Lists.{every}
use Rattle.flows.specs.declared.flow.Flow.{Flow}
use Rattle.flows.specs.Flows.{keeps}
use Rattle.refusals.specs.declared.Refusal.{Refusal}
use Rattle.refusals.specs.declared.Refusal.TheVariants.{Field}
use Rattle.refusals.specs.Results.{Checked, Passed}
use Rattle.refusals.specs.Tests.{◌⟫◌, unless, lowest}
use Rattle.lists.specs.Lists.{place, records}
use Rattle.lists.specs.Tests.{test3, test4}
use Rattle.settings.specs.declared.Said.{Said}
use Rattle.settings.specs.declared.Said.TheVariants.{Missing, Is, Bad}
use Rattle.settings.specs.declared.Call.{Call}
use Rattle.settings.specs.Runs.{Item, holds, items, whole}
use Rattle.settings.specs.Encodings.{grant_size, nominal_interval, tolerated_jitter, grants_per_interval, said, call_of, call, sound}
use Rattle.settings.specs.Slots.{Channel, amount, flows_for, flows_asked}
use Rattle.settings.specs.Tests.{test23, test24, test25}

-- an item stands at a run's front, by its type and its value, and the rest behind it
abbrev pub Front : List ℕ → ℕ → List ℕ → List ℕ → Type 0
Front s t v rest = (items s ≡ holds t v ∷ items rest) × (length rest < length s)

-- what two runs of settings say for one of the four, one behind the other
abbrev pub also : Said → Said → Said
also Missing y = y
also (Is n) Missing = Is n
also (Is n) (Is m) = Bad
also (Is n) Bad = Bad
also Bad y = Bad

-- what one value says for one of the four, whose length is n bytes; nothing, where it is another's
abbrev pub one : Bool → ℕ → List ℕ → Said
one here n v = cond here (said n (v ∷ [])) Missing

-- what settings ask for, and then one of type t more
abbrev pub with_item : Call → ℕ → List ℕ → Call
with_item c t v =
    record {
      size = also c.size (one (eqb t grant_size) 2 v);
      interval = also c.interval (one (eqb t nominal_interval) 4 v);
      jitter = also c.jitter (one (eqb t tolerated_jitter) 4 v);
      grants = also c.grants (one (eqb t grants_per_interval) 1 v);
    }

-- what settings ask for; nothing where one of them is broken
unfoldable pub heard : List Item → Option Call
heard is = cond (every whole is) (Some (call_of is)) None

-- a sound encoding stands at a run's front and asks for c, and the rest behind it
pub record Sound (s : List ℕ) (c : Call) (rest : List ℕ) : Type 0 where
  pub item : Item
  pub stands : items s ≡ item ∷ items rest
  pub shorter : length rest < length s
  pub sound : sound item ≡ true
  pub asks : c ≡ call item

-- an encoding that is not sound stands there
pub record Unsound (s : List ℕ) : Type 0 where
  pub item : Item
  pub rest : List Item
  pub stands : items s ≡ item ∷ rest
  pub unsound : sound item ≡ false

-- the call's interval is a whole number of slots
abbrev pub is_whole : ℕ → Call → Bool
is_whole microseconds c = eqb (amount c.interval % microseconds) 0

-- how many of g flows are taken, where there are n: all, unless they make 129
pub record Taken (n g r : ℕ) : Type 0 where
  pub no_more : r ≤ g
  pub inside : n + r ≤ 129
  pub all : n + r ≤ 128 → r ≡ g

-- the flow by another number
abbrev pub renumbered : ℕ → Flow → Flow
renumbered n f = record { number = n; size = f.size; interval = f.interval; jitter = f.jitter }

-- k flows like f, numbered from n on
unfoldable pub copies : Flow → ℕ → ℕ → List Flow
copies f n zero = []
copies f n (suc k) = renumbered n f ∷ copies f (suc n) k

-- k flows like f are written as records from n on, if there is room and f keeps its rule
pub record Copied (f : Flow) (n k : ℕ) (before after : List ℕ) : Type 0 where
  pub same : length after ≡ length before
  pub copied : keeps f ≡ true → place (n + k) ≤ length before → after ≡ sets before (place n) (records (copies f (suc n) k))

-- the k flows of a call are tested and, if they keep their rule, written as records from n on
pub record CallWritten (ch : Channel) (c : Call) (n k : ℕ) (before : List ℕ) (kept : Bool) (after : List ℕ) : Type 0 where
  pub same : length after ≡ length before
  pub tested : n + k ≤ 128 → lowest Field (suc n) (map keeps (flows_for ch (suc n) c k)) ≡ unless kept (Field (suc n))
  pub written : kept ≡ true → place (n + k) ≤ length before → after ≡ sets before (place n) (records (flows_for ch (suc n) c k))

-- tests 23, 24, 25, 3 and 4, in their order
unfoldable pub read_tests : Channel → List ℕ → Checked
read_tests ch s = test23 s ⟫ test24 s ⟫ test25 ch s ⟫ test3 (length (flows_asked ch s)) ⟫ test4 (flows_asked ch s)

-- how many flows there are where the tests pass
abbrev pub counted : Checked → ℕ → Result ℕ Refusal
counted (Ok tt) n = Ok n
counted (Err r) n = Err r

-- what looking through the run finds
unfoldable pub survey_of : Channel → List ℕ → Result ℕ Refusal
survey_of ch s = counted (read_tests ch s) (length (flows_asked ch s))

-- where the run passes, the records of its flows stand in what was `before`, behind the place of a list's head
abbrev pub Recorded : Channel → List ℕ → List ℕ → List ℕ → Type 0
Recorded ch s before after = read_tests ch s ≡ Passed → after ≡ sets before 4 (records (flows_asked ch s))
