-- The two sums so far, and what the bytes that are left make of them.
use Rattle.std.proofs.Common.{◌≡◌, ◌<◌, drop}
use Rattle.cases.specs.Adler.{adler_from, adler}
use Rattle.cases.proofs.sum.adler.Given as goal

abbrev pub invariant-loop-x : goal.invariant-loop-x
invariant-loop-x l = record {
  low : l.a < 65521;
  high : l.b < 65521;
  sums : adler_from l.a l.b (drop l.x-index l.s) ≡ adler l.s;
}
