-- A room that is filled from a reader: its front holds what was read so far. Assumes nothing.
use Rattle.std.proofs.Common.{◌≡◌, ℕ, ◌+◌, ◌≤◌, List, ◌++◌, length, take, sym, ap, subst, ◌∙◌, length-take-le}
use Rattle.std.proofs.Math.Seq.{take-append-add}
use Rattle.std.proofs.lemmas.List.{take-append-le}
use Rattle.std.specs.declared.option.Option.{Option}
use Rattle.std.specs.Io.KnownBytes.{Consumes}
use Rattle.std.proofs.KnownBytes.{Consumes-trans}

-- the room's front holds what a reader gave on the way from a to b
module _ (a b c : Option (List ℕ)) (xs ys rest : List ℕ) (at m : ℕ) (h : at ≤ length xs) (p : Consumes a b (take at xs)) where
  -- n bytes more were read, into ys behind it
  pub read_more : (n : ℕ) → m ≡ at + n → n ≤ length ys → Consumes b c (take n ys) → Consumes a c (take m (take at xs ++ (ys ++ rest)))
  read_more n e k q =
      let long = length-take-le at xs h in
      let front : take m (take at xs ++ (ys ++ rest)) ≡ take at xs ++ take n ys =
      ap (λ m. take m (take at xs ++ (ys ++ rest))) (e ∙ ap (λ i. i + n) (sym long)) ∙ take-append-add (take at xs) (ys ++ rest) n ∙ ap (λ l. take at xs ++ l) (take-append-le n ys rest k) in
      subst (Consumes a c) (sym front) (Consumes-trans a b c _ _ p q)
