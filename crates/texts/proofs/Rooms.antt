-- A text measured, and printed at the front of a room that is long enough. Assumes nothing.
use Rattle.std.proofs.Common.{◌≡◌, ℕ, ◌≤◌, List, [], leb, length, refl, Ok, Err}
use Rattle.refusals.specs.declared.Refusal.{Refusal}
use Rattle.refusals.specs.declared.Refusal.TheVariants.{Room}
use Rattle.refusals.specs.Results.{Passed}
use Rattle.refusals.specs.Tests.{unless}
use Rattle.refusals.specs.Answers.{answer, written}
use Rattle.refusals.proofs.Rooms.{ends-written, room_short, room_long}
use Rattle.words.specs.Places.{Prints}
use Rattle.words.proofs.Prints.{prints_fits, prints_front}

-- k is its length, and the test of the room as the calls give it
module _ (text room : List ℕ) (k : ℕ) (x : List ℕ) (l : length room ≤ 9223372036854775807) (m : Prints [] 0 text k x) where
  pub text_refused : (r : Refusal) → Err r ≡ unless (leb k (length room)) Room → (Err r ≡ answer Passed text (length room)) × (room ≡ written Passed text room)
  text_refused = room_short Passed text room k refl (prints_fits [] text k x (length room) l m)

  pub text_printed : (u : Unit) → Ok u ≡ unless (leb k (length room)) Room → (end : ℕ) (out : List ℕ) → Prints room 0 text end out
      → (Ok end ≡ answer Passed text (length room)) × (out ≡ written Passed text room)
  text_printed u t end out p =
      let long = room_long Passed text room k refl (prints_fits [] text k x (length room) l m) u t in
      let front = prints_front room text end out long p in
      ends-written Passed text room end out refl long front.0 front.1
