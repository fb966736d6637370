-- Document 02, L2: "Size rounds up, jitter rounds down, an interval must be a whole number of slots, and several grants per interval
-- become as many flows", "numbered from 1 as they come". Assumes nothing.
use Rattle.std.specs.Prelude.{Bool, cond, List, [], ◌∷◌, ◌++◌, ℕ, zero, suc, ◌+◌, ◌/◌, ◌%◌, eqb}
use Rattle.flows.specs.declared.flow.Flow.{Flow}
use Rattle.settings.specs.declared.Said.{Said}
use Rattle.settings.specs.declared.Said.TheVariants.{Missing, Is, Bad}
use Rattle.settings.specs.declared.Call.{Call}
use Rattle.settings.specs.Runs.{Item, items}
use Rattle.settings.specs.Encodings.{call}

-- a channel: its "slot length (whole microseconds) and bytes in a slot"
pub record Channel : Type 0 where
  pub microseconds : ℕ
  pub bytes : ℕ

-- the channel of two plain numbers
abbrev pub channel : ℕ → ℕ → Channel
channel microseconds bytes = record { microseconds = microseconds; bytes = bytes }

-- the number that is said; 0 where none is
abbrev pub amount : Said → ℕ
amount Missing = 0
amount (Is n) = n
amount Bad = 0

-- a / b, rounded up
unfoldable pub rounded_up : ℕ → ℕ → ℕ
rounded_up a b = cond (eqb (a % b) 0) (a / b) (suc (a / b))

-- "an interval must be a whole number of slots"
unfoldable pub whole_slots : Channel → Item → Bool
whole_slots ch i = eqb (amount (call i).interval % ch.microseconds) 0

-- the flow of a call, by the number n
unfoldable pub flow_for : Channel → ℕ → Call → Flow
flow_for ch n c =
    record {
      number = n;
      -- "size rounds up"
      size = rounded_up (amount c.size) ch.bytes;
      interval = amount c.interval / ch.microseconds;
      -- "jitter rounds down"
      jitter = amount c.jitter / ch.microseconds;
    }

-- k flows of a call, numbered from n on
unfoldable pub flows_for : Channel → ℕ → Call → ℕ → List Flow
flows_for ch n c zero = []
flows_for ch n c (suc k) = flow_for ch n c ∷ flows_for ch (suc n) c k

-- the flows of encodings, numbered from n on as they come: "several grants per interval become as many flows"
unfoldable pub flows_from : Channel → ℕ → List Item → List Flow
flows_from ch n [] = []
flows_from ch n (i ∷ is) =
    let k = amount (call i).grants in
    flows_for ch n (call i) k ++ flows_from ch (n + k) is

-- the flows that a run asks for, "numbered from 1"
unfoldable pub flows_asked : Channel → List ℕ → List Flow
flows_asked ch s = flows_from ch 1 (items s)
