-- Each way that an operation which writes can end. Assumes nothing.
use mathlib.Core.Path.{◌≡◌, refl, sym, ap, ◌∙◌}
use mathlib.Core.Bool.{Bool, true, false, cond}
use mathlib.Core.List.{List, ◌++◌}
use Prim.Native.Nat.{ℕ, ◌≤◌, ◌<◌}
use native.Mathlib.Omega.{arith}
use lib.Dec.{leb, ltb}
use lib.ListN.{length, take, drop}
use lib.Seq.{take_at}
use Rattle.logic.proofs.Tests.{by_test}
use borrow.Author.Tests.{lt-ltb, le-ltb, ltb-false, lt-leb, leb-true, leb-false}
use Rattle.refusals.specs.declared.Refusal.{Refusal}
use Rattle.refusals.specs.declared.Refusal.TheVariants.{Room}
use Rattle.std.proofs.Common.{Ok, Err}
use Rattle.refusals.specs.Results.{Checked, Passed, Refused}
use Rattle.refusals.specs.Tests.{unless}
use Rattle.refusals.specs.Answers.{answer, written}

module _ (c : Checked) (bs room : List ℕ) where
  pub ends-refused : (r : Refusal) → c ≡ Refused r → (Err r ≡ answer c bs (length room)) × (room ≡ written c bs room)
  unfolding answer written
  ends-refused r e = rw e (refl, refl)

  pub ends_short : c ≡ Passed → length room < length bs → (Err Room ≡ answer c bs (length room)) × (room ≡ written c bs room)
  unfolding answer written
  ends_short e h = rw (e, lt-ltb (length room) (length bs) h) (refl, refl)

  pub ends-written : (n : ℕ) (out : List ℕ) → c ≡ Passed → length bs ≤ length room → n ≡ length bs → out ≡ bs ++ drop (length bs) room
      → (Ok n ≡ answer c bs (length room)) × (out ≡ written c bs room)
  unfolding answer written
  ends-written n out e h q o = rw (e, le-ltb (length room) (length bs) h) (ap Ok q, o)

-- the test of the room where the others pass, as the calls give it: k is the length that was measured, which fits where the bytes do
module _ (c : Checked) (bs room : List ℕ) (k : ℕ) (e : c ≡ Passed) (same : leb k (length room) ≡ leb (length bs) (length room)) where
  pub room_short : (r : Refusal) → Err r ≡ unless (leb k (length room)) Room → (Err r ≡ answer c bs (length room)) × (room ≡ written c bs room)
  room_short r t =
      by_test (leb k (length room)) (λ h. let i : Err r ≡ Passed = rw h at t in let z : ◌≡◌ {A = ℕ} 0 1 = cc in absurd (omega arith))
      (λ h. let i : Err r ≡ Refused Room = rw h at t in let q : r ≡ Room = cc in rw q (ends_short c bs room e (leb-false (length bs) (length room) (sym same ∙ h))))

  pub room_long : (u : Unit) → Ok u ≡ unless (leb k (length room)) Room → length bs ≤ length room
  room_long u t =
      by_test (leb k (length room)) (λ h. leb-true (length bs) (length room) (sym same ∙ h))
      (λ h. let i : Ok u ≡ Refused Room = rw h at t in let z : ◌≡◌ {A = ℕ} 0 1 = cc in absurd (omega arith))

-- what is written fits the room
pub answer-fits : (c : Checked) (bs : List ℕ) (n k : ℕ) → answer c bs n ≡ Ok k → k ≤ n
unfolding answer
answer-fits (Err r) bs n k e = let z : ◌≡◌ {A = ℕ} 0 1 = cc in absurd (omega arith)
answer-fits (Ok tt) bs n k e = go (ltb n (length bs)) refl e
  where
    go : (t : Bool) → ltb n (length bs) ≡ t → cond t (Err Room) (Ok (length bs)) ≡ Ok k → k ≤ n
    go true h i = let z : ◌≡◌ {A = ℕ} 0 1 = cc in absurd (omega arith)
    go false h i =
        let q : length bs ≡ k = cc in
        omega (arith, ltb-false n (length bs) h)

-- where bytes are answered the tests pass, and the room's front holds the bytes
pub written_front : (c : Checked) (bs room : List ℕ) (k : ℕ) → answer c bs (length room) ≡ Ok k → (c ≡ Passed) × (take k (written c bs room) ≡ bs)
unfolding answer written
written_front (Err r) bs room k e = let z : ◌≡◌ {A = ℕ} 0 1 = cc in absurd (omega arith)
written_front (Ok tt) bs room k e =
    by_test (ltb (length room) (length bs)) (λ t. let i : Err Room ≡ Ok k = rw t at e in let z : ◌≡◌ {A = ℕ} 0 1 = cc in absurd (omega arith))
    (λ t.
    let i : Ok (length bs) ≡ Ok k = rw t at e in
    let q : length bs ≡ k = cc in
    (refl, rw t (take_at bs (drop (length bs) room) k q)))
