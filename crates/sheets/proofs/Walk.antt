-- What stands at a place of a sheet: its end, or a line that is of the form or not. Assumes nothing.
use mathlib.Core.Path.{◌≡◌, refl, sym, ap, ap₂, ◌∙◌}
use mathlib.Core.Bool.{true}
use mathlib.Core.List.{List, [], ◌∷◌, ◌++◌, append_assoc, map}
use Prim.Native.Nat.{ℕ, ◌+◌, ◌≤◌, ◌<◌}
use native.Mathlib.Omega.{arith}
use lib.ListN.{length, drop, drop_of_length-le, length-drop, length-append}
use Rattle.std.proofs.Common.{Option, Some, None}
use Rattle.flows.specs.declared.flow.Flow.{Flow}
use Rattle.words.specs.Decimals.{decimal}
use Rattle.words.proofs.Decimals.{decimal-digits}
use Rattle.sheets.specs.Texts.{flow, size, every, jitter, feed, piece, line}
use Rattle.sheets.specs.Lines.{lines}
use Rattle.sheets.specs.Readings.{flow_in, read, readings, flows_in}
use Rattle.sheets.specs.Reader.{line_at}
use Rattle.sheets.proofs.Lines.{joined, lines_some, Unbroken, lines-line, unbroken_append, unbroken_digits, feedless, unbroken_by}
use Rattle.sheets.proofs.Readings.{readings_is, readings-none, flows_is}
use Rattle.sheets.proofs.Texts.{piece_is, line_is, length-line}
use Rattle.sheets.proofs.Forms.{Short, never, line_at-line, line_at_reads, read_is_line, read-line}

-- ---- the line of a flow has one line feed, at its end

unbroken_piece : (w : List ℕ) (v : ℕ) → feedless w ≡ true → Unbroken (piece w v)
unbroken_piece w v e = rw (piece_is w v) (unbroken_append w (decimal v) (unbroken_by w e) (unbroken_digits (decimal v) (decimal-digits v)))

line_first : (f : Flow) (s : List ℕ) → lines (line f ++ s) ≡ line f ∷ lines s
line_first f s =
    let p₁ : List ℕ = piece flow f.number in
    let p₂ : List ℕ = piece size f.size in
    let p₃ : List ℕ = piece every f.interval in
    let p₄ : List ℕ = piece jitter f.jitter in
    let e : line f ≡ (p₁ ++ (p₂ ++ (p₃ ++ p₄))) ++ feed = line_is f ∙ simp append_assoc in
    rw e
    (lines-line (p₁ ++ (p₂ ++ (p₃ ++ p₄))) s
    (unbroken_append p₁ _ (unbroken_piece flow f.number refl)
    (unbroken_append p₂ _ (unbroken_piece size f.size refl)
    (unbroken_append p₃ _ (unbroken_piece every f.interval refl) (unbroken_piece jitter f.jitter refl)))))

-- and is read first
pub reads_first : (f : Flow) (s : List ℕ) → Short f → readings (line f ++ s) ≡ Some f ∷ readings s
reads_first f s h =
    readings_is (line f ++ s) ∙ ap (map read) (line_first f s) ∙ ap₂ (λ (x : Option Flow) (xs : List (Option Flow)). x ∷ xs) (read-line f h) (sym (readings_is s))

-- ---- the end of the sheet

module _ (s : List ℕ) (at : ℕ) (h : length s ≤ at) where
  pub readings_done : readings (drop at s) ≡ []
  readings_done = ap readings (drop_of_length-le s h) ∙ readings-none

  pub flows_done : flows_in (drop at s) ≡ []
  flows_done = flows_is (drop at s) ∙ ap (map flow_in) readings_done

-- ---- a line of it

is_bad : (y : Option Flow) → ((f : Flow) → y ≡ Some f → ⊥) → y ≡ None
is_bad (Some f) n = absurd (n f refl)
is_bad None n = refl

module _ (s : List ℕ) (at : ℕ) where
  -- a line of the form, as the code reads it
  module _ (f : Flow) (e : ℕ) (g : Some (f, e) ≡ line_at at s) where
    stands : Short f × (e ≤ length s) × (drop at s ≡ line f ++ drop e s)
    stands = line_at-line at s f e (sym g)

    pub line-within : (at < e) × (e ≤ length s)
    line-within =
        let sum = ap length stands.2 ∙ length-append (line f) (drop e s) in
        (omega (arith, sum, stands.1, length-line f, length-drop at s, length-drop e s), stands.1)

    pub says : readings (drop at s) ≡ Some f ∷ readings (drop e s)
    says = ap readings stands.2 ∙ reads_first f (drop e s) stands.0

    pub flows-next : flows_in (drop at s) ≡ f ∷ flows_in (drop e s)
    flows-next = flows_is (drop at s) ∙ ap (map flow_in) says ∙ ap (λ (fs : List Flow). f ∷ fs) (sym (flows_is (drop e s)))

  -- a line that is not
  pub says_bad : at < length s → None ≡ line_at at s → (rest : List (Option Flow)) × (readings (drop at s) ≡ None ∷ rest)
  says_bad h g =
      let first = lines_some (drop at s) (omega (arith, length-drop at s)) in
      let l : List ℕ = first.0 in
      let rest : List (List ℕ) = first.1 in
      let bad : read l ≡ None = is_bad (read l) (λ f e.
      let is = read_is_line l f e in
      let good = line_at_reads at s (joined rest) f is.0 (first.3 ∙ ap (λ (y : List ℕ). y ++ joined rest) is.1) in
      never ⊥ (f, at + length (line f)) (g ∙ good)) in
      (map read rest, readings_is (drop at s) ∙ ap (map read) first.2 ∙ ap (λ (y : Option Flow). y ∷ map read rest) bad)
