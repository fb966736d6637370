-- The word is put up to a byte, and the rest of it is left. Assumes nothing.
use Rattle.std.proofs.Common.{◌≡◌, ◌+◌, length, drop}
use lib.Seq.{sets}
use Rattle.words.proofs.word.put.Given as goal

abbrev pub invariant-loop-byte : goal.invariant-loop-byte
invariant-loop-byte l = record {
  place : l.end ≡ l.at + l.byte-index;
  long : length l.room ≡ length l.initial.room;
  put : sets l.room (l.at + l.byte-index) (drop l.byte-index l.w) ≡ sets l.initial.room l.at l.w;
}
