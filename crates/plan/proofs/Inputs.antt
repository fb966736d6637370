-- What is written of the bytes that are read, each way that it can end. Assumes nothing.
use Rattle.std.proofs.Common.{◌≡◌, ℕ, ◌<◌, ◌≤◌, List, [], ◌++◌, length, take, refl, sym, ap, subst, ◌∙◌, arith, codes, ltb, IfSome, length-take-le, length-append, append-nil}
use borrow.Author.Tests.{lt-ltb, le-ltb}
use Rattle.std.specs.declared.option.Option.{Option}
use Rattle.std.specs.declared.option.Option.TheVariants.{None, Some}
use Rattle.std.specs.Io.KnownBytes.{Appends, Consumes, IsAtEnd}
use Rattle.logic.proofs.Tests.{by_test}
use Rattle.refusals.specs.declared.Refusal.{Refusal}
use Rattle.refusals.specs.declared.Refusal.TheVariants.{Room}
use Rattle.std.proofs.Common.{Ok, Err}
use Rattle.refusals.specs.Results.{Passed}
use Rattle.refusals.specs.Answers.{answer, written}
use Rattle.refusals.proofs.Rooms.{written_front}
use Rattle.plan.specs.Printed.{sheet_text, shown, input_text}

-- a text that does not fit the room
pub shown_none : (t : List ℕ) (r : Refusal) → Err r ≡ answer Passed t 32768 → shown t ≡ []
unfolding answer
shown_none t r e = by_test (ltb 32768 (length t)) (λ h. rw h refl) (λ h. let i : Err r ≡ Ok (length t) = rw h at e in let z : ◌≡◌ {A = ℕ} 0 1 = cc in absurd (omega arith))

-- a text that does; out is the room afterwards
pub shown_all : (t room out : List ℕ) (k : ℕ) → length room ≡ 32768 → out ≡ written Passed t room → Ok k ≡ answer Passed t 32768 → take k out ≡ shown t
unfolding answer
shown_all t room out k h o e =
    let front = written_front Passed t room k (ap (answer Passed t) h ∙ sym e) in
    ap (take k) o ∙ front.1
    ∙ by_test (ltb 32768 (length t)) (λ i. let j : Ok k ≡ Err Room = rw i at e in let z : ◌≡◌ {A = ℕ} 0 1 = cc in absurd (omega arith)) (λ i. rw i refl)

-- a reader gave n bytes on the way from a to b, and then a writer took some on the way from p to q
pub long_input : (a b p q : Option (List ℕ)) (n : ℕ) (xs : List ℕ) → Consumes a b (take n xs) → 65536 < n → n ≤ length xs → Appends p q (codes "sheet too long\n")
    → IfSome a (λ s. Appends p q (input_text s))
unfolding input_text
long_input None b p q n xs read long fits wrote = tt
long_input (Some s) None p q n xs read long fits wrote = absurd read
long_input (Some s) (Some r) p q n xs read long fits wrote =
    let far : 65536 < length s = omega (arith, ap length read, length-append (take n xs) r, length-take-le n xs fits) in
    rw (lt-ltb 65536 (length s) far) wrote

pub whole_input : (a b p q : Option (List ℕ)) (n : ℕ) (xs : List ℕ) → Consumes a b (take n xs) → n ≤ 65536 → n ≤ length xs → IsAtEnd b → Appends p q (shown (sheet_text (take n xs)))
    → IfSome a (λ s. Appends p q (input_text s))
unfolding input_text
whole_input None b p q n xs read short fits end wrote = tt
whole_input (Some s) None p q n xs read short fits end wrote = absurd read
whole_input (Some s) (Some r) p q n xs read short fits end wrote =
    let all : take n xs ≡ s = sym (read ∙ ap (λ l. take n xs ++ l) end ∙ append-nil (take n xs)) in
    let near : length s ≤ 65536 = omega (arith, ap length all, length-take-le n xs fits) in
    rw (le-ltb 65536 (length s) near) (subst (λ l. Appends p q (shown (sheet_text l))) all wrote)
