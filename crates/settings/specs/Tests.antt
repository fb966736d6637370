-- Document 02, L2: "Refusals: 26 a channel value of zero comes first, then 23 broken encoding, another type at the top, or one of the
-- four repeated or of wrong length, 24 one of the four missing, 25 interval not whole, then 3 to 6 and 9." Assumes nothing.
use Rattle.std.specs.Prelude.{◌&&◌, List, map, ℕ, ltb, length}
use Rattle.refusals.specs.declared.Refusal.TheVariants.{Encoding, MissingSetting, NotWhole, NoChannel}
use Rattle.refusals.specs.Results.{Checked, Written}
use Rattle.refusals.specs.Tests.{◌⟫◌, unless, lowest}
use Rattle.refusals.specs.Answers.{answer, written}
use Rattle.lists.specs.Lists.{list_of}
use Rattle.lists.specs.Tests.{test3, test4, test5, test6}
use Rattle.settings.specs.Runs.{items}
use Rattle.settings.specs.Encodings.{sound, complete}
use Rattle.settings.specs.Slots.{Channel, whole_slots, flows_asked}

-- 26: a channel value of zero
unfoldable pub test26 : Channel → Checked
test26 ch = unless (ltb 0 ch.microseconds && ltb 0 ch.bytes) NoChannel

-- 23: broken encoding, another type at the top, or one of the four repeated or of wrong length
unfoldable pub test23 : List ℕ → Checked
test23 s = lowest Encoding 1 (map sound (items s))

-- 24: one of the four missing
unfoldable pub test24 : List ℕ → Checked
test24 s = lowest MissingSetting 1 (map complete (items s))

-- 25: interval not a whole number of slots
unfoldable pub test25 : Channel → List ℕ → Checked
test25 ch s = lowest NotWhole 1 (map (whole_slots ch) (items s))

-- all tests but 9, in their order
unfoldable pub settings_tests : Channel → List ℕ → Checked
settings_tests ch s =
    let fs = flows_asked ch s in
    test26 ch ⟫ test23 s ⟫ test24 s ⟫ test25 ch s ⟫ test3 (length fs) ⟫ test4 fs ⟫ test5 fs ⟫ test6 fs

-- the answer, for a room of n bytes
abbrev pub settings_answer : Channel → List ℕ → ℕ → Written
settings_answer ch s n = answer (settings_tests ch s) (list_of (flows_asked ch s)) n

-- and the room afterwards
abbrev pub settings_room : Channel → List ℕ → List ℕ → List ℕ
settings_room ch s room = written (settings_tests ch s) (list_of (flows_asked ch s)) room
