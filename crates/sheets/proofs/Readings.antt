-- What the definitions of reading say, one step deep, and the end of a line. Assumes nothing.
use mathlib.Core.Path.{◌≡◌, refl}
use mathlib.Core.Bool.{cond}
use mathlib.Core.List.{List, [], map}
use Prim.Native.Nat.{ℕ, ◌+◌, ◌≤◌, ◌<◌}
use native.Mathlib.Omega.{arith}
use lib.Dec.{eqb}
use lib.ListN.{length, drop, drop_of_length-le}
use Rattle.std.proofs.Common.{Option, Some, None}
use Rattle.std.specs.Bool.{then_some}
use Rattle.flows.specs.declared.flow.Flow.{Flow}
use Rattle.words.specs.Words.{starts}
use Rattle.words.specs.Numbers.{number_after}
use Rattle.logic.proofs.Tests.{by_test}
use Rattle.sheets.specs.Texts.{flow, size, every, jitter, feed}
use Rattle.sheets.specs.Lines.{lines}
use Rattle.sheets.specs.Readings.{found, ended, read, flow_in, readings, flows_in}
use Rattle.sheets.specs.Reader.{ended_at, line_at}

pub line_at_is : (at : ℕ) (s : List ℕ)
    → line_at at s
    ≡ found (number_after at flow s) (λ n a.
    found (number_after a size s) (λ z b.
    found (number_after b every s) (λ i c.
    found (number_after c jitter s) (λ j d.
    ended_at d s (record { number = n; size = z; interval = i; jitter = j })))))
unfolding line_at
line_at_is at s = refl

pub readings_is : (s : List ℕ) → readings s ≡ map read (lines s)
unfolding readings
readings_is s = refl

pub readings-none : readings [] ≡ []
unfolding readings lines
readings-none = refl

pub flows_is : (s : List ℕ) → flows_in s ≡ map flow_in (readings s)
unfolding flows_in
flows_is s = refl

-- ---- the end of a line

module _ (s : List ℕ) (at : ℕ) (f : Flow) where
  -- nothing stands beyond the sheet
  pub ended_beyond : length s < at → ended_at at s f ≡ None
  unfolding ended_at starts
  ended_beyond h = let l : length s ≤ at = omega arith in rw (drop_of_length-le s l)

  -- in the library's word
  pub ended_is : ended_at at s f ≡ then_some (starts feed (drop at s)) (f, at + 1)
  unfolding ended_at
  ended_is = by_test (starts feed (drop at s)) (λ t. rw t) (λ t. rw t)

-- ---- a line by itself

-- what is read in a text of n bytes, where nothing is left behind it
abbrev pub whole : Option (Flow × ℕ) → ℕ → Option Flow
whole (Some x) n = cond (eqb n x.1) (Some x.0) None
whole None n = None

whole-found : (m : Option (ℕ × ℕ)) (next : ℕ → ℕ → Option (Flow × ℕ)) (rest : ℕ → ℕ → Option Flow) (n : ℕ) → ((v e : ℕ) → rest v e ≡ whole (next v e) n)
    → found m rest ≡ whole (found m next) n
whole-found (Some x) next rest n h = h x.0 x.1
whole-found None next rest n h = refl

whole-ended : (at : ℕ) (l : List ℕ) (f : Flow) → ended at l f ≡ whole (ended_at at l f) (length l)
unfolding ended ended_at
whole-ended at l f = by_test (starts feed (drop at l)) (λ t. rw t) (λ t. rw t)

-- it is read as where it starts in a sheet
pub read_whole : (l : List ℕ) → read l ≡ whole (line_at 0 l) (length l)
unfolding read line_at
read_whole l =
    whole-found (number_after 0 flow l) _ _ (length l) (λ n a.
    whole-found (number_after a size l) _ _ (length l) (λ z b.
    whole-found (number_after b every l) _ _ (length l) (λ i c.
    whole-found (number_after c jitter l) _ _ (length l) (λ j d.
    whole-ended d l (record { number = n; size = z; interval = i; jitter = j })))))
