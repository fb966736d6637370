-- One walk over the grants of a table that notes the first fault of tests 14, 16, 17 and 18. Assumes nothing.
use Rattle.std.proofs.Common.{◌≡◌, refl, sym, ap, ◌∙◌, Bool, true, false, List, ℕ, zero, suc, ◌+◌, ◌≤◌, ◌<◌, add-one, arith, leb, length, get_or, Ok, Err}
use borrow.Author.Tests.{le-leb}
use Rattle.flows.specs.declared.flow.Flow.{Flow}
use Rattle.refusals.specs.declared.Refusal.{Refusal}
use Rattle.refusals.specs.declared.Refusal.TheVariants.{UnknownFlow, Timing, Overlap, PastCycle}
use Rattle.refusals.specs.Results.{Checked, Passed}
use Rattle.refusals.specs.Tests.{◌⟫◌, unless, after}
use Rattle.refusals.proofs.Chains.{first_refuses, chain_assoc, chain_passed}
use Rattle.refusals.proofs.Walks.{before, walk, walk_alone, walk-next, walk-turn, walk_here, walk_end}
use Rattle.lists.specs.Facts.{cycle, occupies}
use Rattle.tables.specs.declared.packed.Grant.{Grant}
use Rattle.law.specs.Check.{look, slots, listed, timely, clears, ends, test14, test16, test17, test18}
use Rattle.law.specs.Law.{blank}
use Rattle.checking.specs.declared.seen.Seen.{Seen}
use Rattle.checking.specs.Parts.{next, answers, tests_with}

-- ---- what is noted of a test

-- what is noted, and the records from i on, say together what the walk from the first record says
abbrev Says : (ℕ → Refusal) → (List Grant → Grant → Bool) → List Grant → ℕ → Checked → Checked
Says refusal ok gs i t = t ⟫ walk refusal ok gs blank i

-- one turn: record i passes or not
says_next : (refusal : ℕ → Refusal) (ok : List Grant → Grant → Bool) (gs : List Grant) (i : ℕ) (t : Checked) (b : Bool)
    → i < length gs → b ≡ ok (before gs blank i) (get_or gs i blank) → Says refusal ok gs (i + 1) (t ⟫ unless b (refusal (i + 1))) ≡ Says refusal ok gs i t
says_next refusal ok gs i t b h e =
    chain_assoc t (unless b (refusal (i + 1))) (walk refusal ok gs blank (i + 1)) ∙ ap (λ (c : Checked). t ⟫ c) (sym (walk-turn refusal ok gs blank i h b e))

-- no record is left
says_end : (refusal : ℕ → Refusal) (ok : List Grant → Grant → Bool) (gs : List Grant) (i : ℕ) (t : Checked) → length gs ≤ i → Says refusal ok gs i t ≡ t
says_end refusal ok gs i t h = ap (λ (c : Checked). t ⟫ c) (sym (walk_end refusal ok gs blank i h)) ∙ chain_passed t

-- ---- the four tests

-- the slot behind the last grant before record i
abbrev behind : List Flow → List Grant → ℕ → ℕ
behind fs gs zero = 0
behind fs gs (suc i) = let g = get_or gs i blank in g.start + slots fs g

-- what is seen before record i
pub record Walked (fs : List Flow) (gs : List Grant) (i : ℕ) (s : Seen) : Type 0 where
  pub listed : walk UnknownFlow (λ _ g. listed fs g) gs blank i ≡ test14 fs gs
  pub timing : Says Timing (timely 0 fs) gs i s.timing ≡ test16 fs gs
  pub overlap : Says Overlap (after (clears fs)) gs i s.overlap ≡ test17 fs gs
  pub past : Says PastCycle (λ _ g. ends fs g) gs i s.past ≡ test18 fs gs
  pub end : s.end ≡ behind fs gs i

-- test 17 of a grant by the slot behind the one before
clears_is : (fs : List Flow) (gs : List Grant) (i e : ℕ) (g : Grant) → e ≡ behind fs gs i → leb e g.start ≡ after (clears fs) (before gs blank i) g
unfolding after clears
clears_is fs gs zero e g q = rw q (le-leb 0 g.start (omega arith))
clears_is fs gs (suc i) e g q = rw q

module _ (fs : List Flow) (gs : List Grant) where
  pub walked_none : Walked fs gs 0 (record { timing = Passed; overlap = Passed; past = Passed; end = 0 })
  unfolding test14 test16 test17 test18
  walked_none =
      record {
        listed = walk_alone UnknownFlow (listed fs) gs blank;
        timing = refl;
        overlap = refl;
        past = walk_alone PastCycle (ends fs) gs blank;
        end = refl;
      }

  module _ (i : ℕ) (s : Seen) (a : Walked fs gs i s) where
    -- the table's flows are all listed
    pub walked_end : length gs ≤ i → (counts : Checked) → answers (Ok s) counts ≡ tests_with fs gs counts
    walked_end h counts =
        let u = walk_end UnknownFlow (λ _ g. listed fs g) gs blank i h ∙ a.listed in
        let t = sym (says_end Timing (timely 0 fs) gs i s.timing h) ∙ a.timing in
        let o = sym (says_end Overlap (after (clears fs)) gs i s.overlap h) ∙ a.overlap in
        let p = sym (says_end PastCycle (λ _ g. ends fs g) gs i s.past h) ∙ a.past in
        rw (← u, ← t, ← o, ← p)

    module _ (h : i < length gs) (g : Grant) (e : g ≡ get_or gs i blank) where
      -- the flow of record i is not in the list
      pub walked_unknown : listed fs g ≡ false → (counts : Checked) → answers (Err (UnknownFlow (i + 1))) counts ≡ tests_with fs gs counts
      walked_unknown n counts =
          let here = walk_here UnknownFlow (λ _ x. listed fs x) gs blank i h (listed fs g) (ap (listed fs) e) n ∙ a.listed in
          first_refuses _ _ _ (sym here)

      -- it is flow f, and test 16 says b of it
      pub walked_next : listed fs g ≡ true → (f : Flow) → f ≡ look fs g.flow → (b : Bool) → b ≡ timely 0 fs (before gs blank i) g → (c : ℕ) → c ≡ cycle fs
          → Walked fs gs (i + 1) (next s b f g c (i + 1))
      unfolding ends slots
      walked_next k f l b t c w =
          record {
            listed = sym (walk-next UnknownFlow (λ _ x. listed fs x) gs blank i h (listed fs g) (ap (listed fs) e) k) ∙ a.listed;
            timing = says_next Timing (timely 0 fs) gs i s.timing b h (t ∙ ap (timely 0 fs (before gs blank i)) e) ∙ a.timing;
            overlap = says_next Overlap (after (clears fs)) gs i s.overlap (leb s.end g.start) h (clears_is fs gs i s.end g a.end ∙ ap (after (clears fs) (before gs blank i)) e) ∙ a.overlap;
            past = says_next PastCycle (λ _ x. ends fs x) gs i s.past (leb (g.start + occupies f) c) h (rw (l, w) (ap (ends fs) e)) ∙ a.past;
            end = rw (l, e, add-one);
          }
