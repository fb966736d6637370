-- The place of a flow in its list, and what an index of the list's records by the last eight bits of their numbers notes. Assumes nothing.
use Rattle.std.specs.Prelude.{◌≡◌, true, false, cond, List, [], ◌∷◌, ℕ, suc, ◌%◌, ◌≤◌, ◌<◌, ltb, eqb, length, get_or, Option, Some, None}
use Rattle.flows.specs.declared.flow.Flow.{Flow}
use Rattle.flows.specs.Flows.{no_flow}
use Rattle.finding.specs.declared.Index.{Index}

-- the place of the first flow with the number x, if one has it, where the first of them is counted as k
unfoldable pub record_from : ℕ → List Flow → ℕ → Option ℕ
record_from k [] x = None
record_from k (f ∷ fs) x = elim (eqb f.number x) [ true ↦ Some k | false ↦ record_from (suc k) fs x ]

-- the place of the first flow with the number x, if one has it, counted from 0
abbrev pub record_of : List Flow → ℕ → Option ℕ
record_of fs x = record_from 0 fs x

-- the last eight bits of the number of record k
abbrev pub bits_of : List Flow → ℕ → ℕ
bits_of fs k = (get_or fs k no_flow).number % 256

-- the record that is noted first for the last eight bits of x
abbrev pub first_of : List ℕ → ℕ → ℕ
first_of firsts x = get_or firsts (x % 256) 0

-- the record that is noted behind record k
abbrev pub next_of : List ℕ → ℕ → ℕ
next_of nexts k = get_or nexts k 0

-- the record that a note says: 128 says that there is none
abbrev pub record_in : ℕ → Option ℕ
record_in note = cond (ltb note 128) (Some note) None

-- the record that is noted behind record k, where it is one further on
abbrev pub behind : List ℕ → ℕ → Option ℕ
behind nexts k = cond (ltb k (next_of nexts k)) (record_in (next_of nexts k)) None

-- the records from i on are noted: for any last eight bits the first one with them, for each record the next one with the same; 128 where there is none
pub record Noted (fs : List Flow) (i : ℕ) (firsts nexts : List ℕ) : Type 0 where
  pub few : length fs ≤ 128
  pub first_skips : (x j : ℕ) → i ≤ j → j < length fs → j < first_of firsts x → bits_of fs j ≡ x % 256 → ⊥
  pub first_has : (x : ℕ) → first_of firsts x < 128 → (i ≤ first_of firsts x) × (first_of firsts x < length fs) × (bits_of fs (first_of firsts x) ≡ x % 256)
  pub next_skips : (k j : ℕ) → i ≤ k → k < j → j < length fs → j < next_of nexts k → bits_of fs j ≡ bits_of fs k → ⊥
  pub next_has : (k : ℕ) → i ≤ k → k < length fs → next_of nexts k < 128 → (k < next_of nexts k) × (next_of nexts k < length fs) × (bits_of fs (next_of nexts k) ≡ bits_of fs k)

-- all records are noted
abbrev pub Indexed : List Flow → Index → Type 0
Indexed fs index = Noted fs 0 index.firsts index.nexts
