-- Document 01's "Refusal numbers" and those of document 02: the number and the place of each refusal. Assumes nothing.
use Rattle.std.specs.Prelude.{ℕ}
use Rattle.refusals.specs.declared.Refusal.{Refusal}
use Rattle.refusals.specs.declared.Refusal.TheVariants.{Length, Head, Count, Field, UsedNumber, Unrelated, Limits, Overload, Room, NoFrame, TableForm, NotRising, OtherCycle, UnknownFlow, GrantCount, Timing, Overlap, PastCycle, WindowEnds, Line, OutsideSpan, NoOffset, Encoding, MissingSetting, NotWhole, NoChannel, NoBase, BelowBase}

-- the refusal's number
abbrev pub number : Refusal → ℕ
number Length = 1
number Head = 2
number Count = 3
number (Field p) = 4
number (UsedNumber p) = 5
number (Unrelated p) = 6
number Limits = 7
number Overload = 8
number Room = 9
number (NoFrame p) = 10
number TableForm = 11
number (NotRising p) = 12
number OtherCycle = 13
number (UnknownFlow p) = 14
number (GrantCount p) = 15
number (Timing p) = 16
number (Overlap p) = 17
number (PastCycle p) = 18
number WindowEnds = 19
number (Line p) = 20
number OutsideSpan = 21
number NoOffset = 22
number (Encoding p) = 23
number (MissingSetting p) = 24
number (NotWhole p) = 25
number NoChannel = 26
number NoBase = 27
number (BelowBase p) = 28

-- the record, line or encoding that it names, counted from 1; 0 where it names none
abbrev pub place : Refusal → ℕ
place Length = 0
place Head = 0
place Count = 0
place (Field p) = p
place (UsedNumber p) = p
place (Unrelated p) = p
place Limits = 0
place Overload = 0
place Room = 0
place (NoFrame p) = p
place TableForm = 0
place (NotRising p) = p
place OtherCycle = 0
place (UnknownFlow p) = p
place (GrantCount p) = p
place (Timing p) = p
place (Overlap p) = p
place (PastCycle p) = p
place WindowEnds = 0
place (Line p) = p
place OutsideSpan = 0
place NoOffset = 0
place (Encoding p) = p
place (MissingSetting p) = p
place (NotWhole p) = p
place NoChannel = 0
place NoBase = 0
place (BelowBase p) = p
