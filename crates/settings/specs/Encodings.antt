-- Document 02, L2: "a run of upstream service flow encodings", each a run of settings, of which four are ours: "grant size in bytes,
-- nominal interval and tolerated jitter in microseconds, grants per interval". Assumes nothing.
use Rattle.std.specs.Prelude.{Bool, true, false, cond, ◌&&◌, List, [], ◌∷◌, ℕ, ◌+◌, ◌*◌, eqb, length}
use Rattle.logic.specs.Lists.{every}
use Rattle.settings.specs.declared.Said.{Said}
use Rattle.settings.specs.declared.Said.TheVariants.{Missing, Is, Bad}
use Rattle.settings.specs.declared.Call.{Call}
use Rattle.settings.specs.Runs.{Item, holds, broken, items, whole}

-- the published types: an upstream service flow encoding
abbrev pub upstream : ℕ
upstream = 24

-- inside it unsolicited grant size, 2 bytes
abbrev pub grant_size : ℕ
grant_size = 19

-- nominal grant interval, 4 bytes
abbrev pub nominal_interval : ℕ
nominal_interval = 20

-- tolerated grant jitter, 4 bytes
abbrev pub tolerated_jitter : ℕ
tolerated_jitter = 21

-- and grants per interval, 1 byte
abbrev pub grants_per_interval : ℕ
grants_per_interval = 22

-- the number v and then bytes, the most significant byte first
unfoldable pub number_from : ℕ → List ℕ → ℕ
number_from v [] = v
number_from v (b ∷ bs) = number_from (256 * v + b) bs

-- the number that bytes give
abbrev pub number : List ℕ → ℕ
number bs = number_from 0 bs

-- the values of the settings of a type; those of other types are stepped over
unfoldable pub values_of : ℕ → List Item → List (List ℕ)
values_of t [] = []
values_of t (holds type value ∷ is) =
    let r = values_of t is in
    cond (eqb type t) (value ∷ r) r
values_of t (broken ∷ is) = values_of t is

-- what the values of one of the four say, whose length is n bytes: nothing, one number, or "repeated or of wrong length"
abbrev pub said : ℕ → List (List ℕ) → Said
said n [] = Missing
said n (v ∷ []) = cond (eqb (length v) n) (Is (number v)) Bad
said n (v ∷ w ∷ vs) = Bad

-- what settings ask for: the four, of 2, 4, 4 and 1 bytes
unfoldable pub call_of : List Item → Call
call_of is =
    record {
      size = said 2 (values_of grant_size is);
      interval = said 4 (values_of nominal_interval is);
      jitter = said 4 (values_of tolerated_jitter is);
      grants = said 1 (values_of grants_per_interval is);
    }

-- the settings of an encoding
abbrev pub settings_of : Item → List Item
settings_of (holds type value) = items value
settings_of broken = []

-- what an encoding asks for
unfoldable pub call : Item → Call
call i = call_of (settings_of i)

-- neither repeated nor of wrong length
abbrev pub good : Said → Bool
good Missing = true
good (Is n) = true
good Bad = false

-- not missing
abbrev pub present : Said → Bool
present Missing = false
present (Is n) = true
present Bad = true

-- each of the four passes
unfoldable pub all_four : (Said → Bool) → Call → Bool
all_four ok c = ok c.size && (ok c.interval && (ok c.jitter && ok c.grants))

-- an item at the top is an upstream service flow encoding
abbrev pub upstream_flow : Item → Bool
upstream_flow (holds type value) = eqb type upstream
upstream_flow broken = false

-- the encoding is not broken, has no other type, holds no broken setting, and none of the four is repeated or of wrong length
unfoldable pub sound : Item → Bool
sound i = upstream_flow i && (every whole (settings_of i) && all_four good (call i))

-- none of the four is missing
unfoldable pub complete : Item → Bool
complete i = all_four present (call i)
