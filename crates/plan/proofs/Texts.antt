-- What is printed where bytes are made first, each way that it can end. Assumes nothing.
use Rattle.std.proofs.Common.{◌≡◌, ℕ, List, length, take, sym, ap, ◌∙◌, Ok, Err}
use Rattle.refusals.specs.declared.Refusal.{Refusal}
use Rattle.refusals.specs.Results.{Checked}
use Rattle.refusals.specs.Answers.{answer, written}
use Rattle.refusals.proofs.Rooms.{written_front}
use Rattle.texts.specs.Texts.{refusal_text}
use Rattle.plan.specs.Printed.{printed}

-- the bytes bs are made in a room of n bytes where the tests pass, and text is what is printed of them
module _ (tests : Checked) (bs : List ℕ) (n : ℕ) (text : List ℕ → List ℕ) where
  pub printed_refused : (r : Refusal) → Err r ≡ answer tests bs n → refusal_text r ≡ printed (answer tests bs n) (text bs)
  printed_refused r e = rw (← e)

  -- out is the room afterwards
  pub printed_made : (k : ℕ) (room out : List ℕ) → length room ≡ n → out ≡ written tests bs room → Ok k ≡ answer tests bs n
      → text (take k out) ≡ printed (answer tests bs n) (text bs)
  printed_made k room out h o e =
      let front = written_front tests bs room k (ap (answer tests bs) h ∙ sym e) in
      rw (← e) (ap (λ (x : List ℕ). text (take k x)) o ∙ ap text front.1)
