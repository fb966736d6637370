-- A number out of bytes, byte by byte. Assumes nothing.
use Rattle.std.proofs.Common.{◌≡◌, ℕ, zero, suc, ◌+◌, ◌*◌, ◌^◌, ◌<◌, ◌≤◌, List, length, get_or, drop, arith}
use Rattle.std.proofs.Math.Nat.{pow-succ'}
use Rattle.std.proofs.Math.Numerals.{add-one}
use Rattle.std.proofs.lemmas.List.{at_drop_more, at_drop_all}
use Rattle.settings.specs.Encodings.{number_from}

-- fewer than four bytes give a number of 24 bits at most
pub three_bytes : (i : ℕ) → i < 4 → 256 ^ i ≤ 16777216
three_bytes zero h = omega arith
three_bytes (suc zero) h = omega arith
three_bytes (suc (suc zero)) h = omega arith
three_bytes (suc (suc (suc zero))) h = omega arith
three_bytes (suc (suc (suc (suc i)))) h = absurd (omega (arith, h))

-- one byte more makes 256 times as many
pub byte_more : (i : ℕ) → 256 ^ (i + 1) ≡ 256 * 256 ^ i
byte_more i = rw add-one (pow-succ' 256 i)

-- one byte more is read
pub number_next : (s : List ℕ) (i v : ℕ) → i < length s → number_from v (drop i s) ≡ number_from (256 * v + get_or s i 0) (drop (i + 1) s)
unfolding number_from
number_next s i v h = at_drop_more (number_from v) s i 0 h

-- none is left
pub number_end : (s : List ℕ) (i v : ℕ) → length s ≤ i → number_from v (drop i s) ≡ v
unfolding number_from
number_end s i v h = at_drop_all (number_from v) s i h
