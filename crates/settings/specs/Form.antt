-- The form of a run, without reading it: upstream service flow encodings one behind the other, each holding settings one behind the
-- other, and among them each of the four exactly once. Assumes nothing.
use Rattle.std.specs.Prelude.{◌≡◌, true, List, [], ◌∷◌, ◌++◌, ℕ, length}
use Rattle.logic.specs.Lists.{every}
use Rattle.settings.specs.Runs.{Item, whole, encoded}
use Rattle.settings.specs.Encodings.{upstream, grant_size, nominal_interval, tolerated_jitter, grants_per_interval, number, values_of}

-- what an encoding asks for: a grant size in bytes, an interval and a jitter in microseconds, and how many grants per interval
pub record Amounts : Type 0 where
  pub size : ℕ
  pub interval : ℕ
  pub jitter : ℕ
  pub grants : ℕ

-- exactly one of the settings is of the type t; it has n bytes, and they give the number v
pub record Once (t n v : ℕ) (is : List Item) : Type 0 where
  pub value : List ℕ
  pub alone : values_of t is ≡ value ∷ []
  pub long : length value ≡ n
  pub gives : number value ≡ v

-- the bytes are settings, in any order and with any others among them, that ask for these amounts
pub record SettingsOf (a : Amounts) (s : List ℕ) : Type 0 where
  pub held : List Item
  pub unbroken : every whole held ≡ true
  pub exactly : s ≡ encoded held
  pub says_size : Once grant_size 2 a.size held
  pub says_interval : Once nominal_interval 4 a.interval held
  pub says_jitter : Once tolerated_jitter 4 a.jitter held
  pub says_grants : Once grants_per_interval 1 a.grants held

-- the bytes are encodings that ask for these amounts, in their order, and nothing else
abbrev pub RunOf : List Amounts → List ℕ → Type 0
RunOf [] s = s ≡ []
RunOf (a ∷ rest) s = (v : List ℕ) × (t : List ℕ) × SettingsOf a v × RunOf rest t × (s ≡ upstream ∷ length v ∷ (v ++ t))
