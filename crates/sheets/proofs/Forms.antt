-- A line is read exactly where it is a line: what the reader takes is what document 01 says, and nothing else. Assumes nothing.
use mathlib.Core.Path.{◌≡◌, refl, sym, ap, ap₂, subst, ◌∙◌}
use mathlib.Core.Logic.{◌↔◌}
use mathlib.Core.List.{List, [], ◌∷◌, ◌++◌, append_assoc, append-nil}
use Prim.Native.Nat.{ℕ, ◌+◌, ◌≤◌, ◌<◌}
use native.Mathlib.Omega.{arith}
use lib.Dec.{eqb, lit<}
use lib.ListN.{length, drop, length-drop, drop_of_length-le}
use lib.Seq.{drop_at, drop-drop}
use borrow.Author.Tests.{eq-eqb, eqb-true}
use Rattle.logic.proofs.Tests.{by_test}
use Rattle.std.proofs.Common.{Option, Some, None}
use Rattle.flows.specs.declared.flow.Flow.{Flow}
use Rattle.words.specs.Words.{starts}
use Rattle.words.specs.Numerals.{digit}
use Rattle.words.specs.Numbers.{run, number_after}
use Rattle.words.specs.Decimals.{decimal}
use Rattle.words.proofs.Words.{starts-split, starts-append, starts-le}
use Rattle.words.proofs.Numerals.{numeral-decimal, decimal-numeral}
use Rattle.words.proofs.Texts.{same_pair, after-stands, after-written}
use Rattle.sheets.specs.Texts.{flow, size, every, jitter, feed, piece, line}
use Rattle.sheets.specs.Form.{LineOf}
use Rattle.sheets.specs.Readings.{found, read}
use Rattle.sheets.specs.Reader.{ended_at, line_at}
use Rattle.sheets.proofs.Texts.{piece_is, line_is, length-line}
use Rattle.sheets.proofs.Readings.{line_at_is, whole, read_whole}

-- ---- what is read

-- a bad line says no flow
pub never : {A : Type 0} (P : Type 0) (x : A) → None ≡ Some x → P
never P x e = let z : ◌≡◌ {A = ℕ} 0 1 = cc in absurd (omega arith)

-- a number was found, and x is what follows
record Found (x : Option (Flow × ℕ)) (m : Option (ℕ × ℕ)) (next : ℕ → ℕ → Option (Flow × ℕ)) : Type 0 where
  value : ℕ
  place : ℕ
  is : m ≡ Some (value, place)
  goes : next value place ≡ x

-- the flow f is found, with the place e behind its line
module _ (f : Flow) (e : ℕ) where
  found_of : (m : Option (ℕ × ℕ)) (next : ℕ → ℕ → Option (Flow × ℕ)) → found m next ≡ Some (f, e) → Found (Some (f, e)) m next
  found_of (Some n) next q = record { value = n.0; place = n.1; is = refl; goes = q }
  found_of None next q = never _ (f, e) q

  -- a line feed stood there
  ended_of : (at : ℕ) (s : List ℕ) (g : Flow) → at ≤ length s → ended_at at s g ≡ Some (f, e)
      → (g ≡ f) × (e ≡ at + 1) × (at + 1 ≤ length s) × (drop at s ≡ feed ++ drop (at + 1) s)
  unfolding ended_at
  ended_of at s g h q =
      by_test (starts feed (drop at s))
      (λ t.
      let good : Some (g, at + 1) ≡ Some (f, e) = rw t at q in
      let same = same_pair g f (at + 1) e good in
      let one : 1 ≤ length (drop at s) = starts-le feed (drop at s) t in
      (same.0, sym same.1, omega (arith, length-drop at s), starts-split feed (drop at s) t ∙ ap (λ (y : List ℕ). feed ++ y) (drop-drop 1 at s)))
      (λ t. let bad : None ≡ Some (f, e) = rw t at q in never _ (f, e) bad)

-- a piece that stands in the text, and what follows it
stands : (w : List ℕ) (v : ℕ) (rest s : List ℕ) (p n : ℕ) → drop p s ≡ (w ++ decimal v) ++ drop n s → drop n s ≡ rest → drop p s ≡ piece w v ++ rest
stands w v rest s p n e r = e ∙ ap₂ (λ (x y : List ℕ). x ++ y) (sym (piece_is w v)) r

-- each field has at most four digits
abbrev pub Short : Flow → Type 0
Short f = (f.number < 10000) × (f.size < 10000) × (f.interval < 10000) × (f.jitter < 10000)

-- the line of a flow and a text behind it, piece by piece
line_then : (f : Flow) (rest : List ℕ)
    → line f ++ rest
    ≡ piece flow f.number ++ (piece size f.size ++ (piece every f.interval ++ (piece jitter f.jitter ++ (feed ++ rest))))
line_then f rest = ap (λ (x : List ℕ). x ++ rest) (line_is f) ∙ simp append_assoc

-- what is read at a place is the line of its flow, and the end is behind it
pub line_at-line : (at : ℕ) (s : List ℕ) (f : Flow) (e : ℕ) → line_at at s ≡ Some (f, e)
    → Short f × (e ≤ length s) × (drop at s ≡ line f ++ drop e s)
line_at-line at s f e q =
    let n = found_of f e (number_after at flow s) _ (sym (line_at_is at s) ∙ q) in
    let a = after-stands at flow s n.value n.place n.is in
    let z = found_of f e (number_after n.place size s) _ n.goes in
    let b = after-stands n.place size s z.value z.place z.is in
    let i = found_of f e (number_after z.place every s) _ z.goes in
    let d = after-stands z.place every s i.value i.place i.is in
    let j = found_of f e (number_after i.place jitter s) _ i.goes in
    let g = after-stands i.place jitter s j.value j.place j.is in
    let said : Flow = record { number = n.value; size = z.value; interval = i.value; jitter = j.value } in
    let o = ended_of f e j.place s said g.0 j.goes in
    let text : drop at s ≡ line said ++ drop (j.place + 1) s =
    stands flow n.value _ s at n.place a.2
    (stands size z.value _ s n.place z.place b.2
    (stands every i.value _ s z.place i.place d.2 (stands jitter j.value _ s i.place j.place g.2 o.3)))
    ∙ sym (line_then said (drop (j.place + 1) s)) in
    let short : Short said = (a.1, b.1, d.1, g.1) in
    (subst Short o.0 short, omega (arith, o.1, o.2), text ∙ ap₂ (λ (y : Flow) (k : ℕ). line y ++ drop k s) o.0 (sym o.1))

-- nothing was left behind it
whole_of : (x : Option (Flow × ℕ)) (n : ℕ) (f : Flow) → whole x n ≡ Some f → x ≡ Some (f, n)
whole_of (Some x) n f e =
    by_test (eqb n x.1)
    (λ t. let same : x.0 ≡ f = cc (rw t at e) in ap₂ (λ (g : Flow) (k : ℕ). Some (g, k)) same (sym (eqb-true n x.1 t)))
    (λ t. let i : None ≡ Some f = rw t at e in never _ f i)
whole_of None n f e = never _ f e

-- a text that is read as a line is the line of its flow
pub read_is_line : (s : List ℕ) (f : Flow) → read s ≡ Some f → Short f × (s ≡ line f)
read_is_line s f e =
    let is = line_at-line 0 s f (length s) (whole_of (line_at 0 s) (length s) f (sym (read_whole s) ∙ e)) in
    let none : drop (length s) s ≡ [] = drop_of_length-le s {i = length s} (omega arith) in
    (is.0, is.2 ∙ ap (λ (x : List ℕ). line f ++ x) none ∙ append-nil (line f))

-- ---- a line is the line of its flow

-- the line of a flow, with nothing bracketed
line_flat : (f : Flow)
    → line f
    ≡ flow ++ (decimal f.number ++ (size ++ (decimal f.size ++ (every ++ (decimal f.interval ++ (jitter ++ (decimal f.jitter ++ feed)))))))
unfolding piece
line_flat f =
    line_is f
    ∙ append_assoc flow (decimal f.number) _
    ∙ ap (λ (x : List ℕ). flow ++ (decimal f.number ++ x))
    (append_assoc size (decimal f.size) _
    ∙ ap (λ (x : List ℕ). size ++ (decimal f.size ++ x))
    (append_assoc every (decimal f.interval) _
    ∙ ap (λ (x : List ℕ). every ++ (decimal f.interval ++ x)) (append_assoc jitter (decimal f.jitter) feed)))

pub line_of_is : (f : Flow) (s : List ℕ) → LineOf f s → Short f × (s ≡ line f)
line_of_is f s l =
    let n = numeral-decimal f.number l.first l.says_number in
    let z = numeral-decimal f.size l.second l.says_size in
    let i = numeral-decimal f.interval l.third l.says_interval in
    let j = numeral-decimal f.jitter l.fourth l.says_jitter in
    ((n.0, z.0, i.0, j.0), l.exactly ∙ rw (n.1, z.1, i.1, j.1) (sym (line_flat f)))

pub line-line_of : (f : Flow) → Short f → LineOf f (line f)
line-line_of f h = record {
  first = decimal f.number;
  second = decimal f.size;
  third = decimal f.interval;
  fourth = decimal f.jitter;
  says_number = decimal-numeral f.number h.0;
  says_size = decimal-numeral f.size h.1;
  says_interval = decimal-numeral f.interval h.2;
  says_jitter = decimal-numeral f.jitter h.3;
  exactly = line_flat f;
}

pub read-line_of : (s : List ℕ) (f : Flow) → read s ≡ Some f → LineOf f s
read-line_of s f e = let is = read_is_line s f e in rw is.1 (line-line_of f is.0)

-- ---- the line of a flow is read as the flow

-- what begins with a word that begins with no digit begins with none
run-word : (w rest : List ℕ) → run w ≡ 0 → 0 < length w → run (w ++ rest) ≡ 0
unfolding run
run-word [] rest e h = absurd (omega arith)
run-word (b ∷ w) rest e h = by_test (digit b) (λ t. let z = rw t at e in absurd (omega arith)) (λ t. rw t)

run-piece : (w : List ℕ) (v : ℕ) (rest : List ℕ) → run w ≡ 0 → 0 < length w → run (piece w v ++ rest) ≡ 0
run-piece w v rest e h = ap run (ap (λ (x : List ℕ). x ++ rest) (piece_is w v) ∙ append_assoc w (decimal v) rest) ∙ run-word w (decimal v ++ rest) e h

-- no word behind a number begins with a digit
words_run : (run size ≡ 0) × (run every ≡ 0) × (run jitter ≡ 0) × (run feed ≡ 0)
unfolding run digit
words_run = (refl, refl, refl, refl)

-- a piece at a place of the text is found there, with the rest behind it
piece-found : (w : List ℕ) (v : ℕ) (rest s : List ℕ) (p : ℕ) → v < 10000 → run rest ≡ 0 → drop p s ≡ piece w v ++ rest
    → (number_after p w s ≡ Some (v, p + length (piece w v))) × (drop (p + length (piece w v)) s ≡ rest)
piece-found w v rest s p small none e = (
  after-written p w s rest v small none (e ∙ ap (λ (x : List ℕ). x ++ rest) (piece_is w v)) ∙ ap (λ (x : List ℕ). Some (v, p + length x)) (sym (piece_is w v)),
  sym (drop-drop (length (piece w v)) p s) ∙ ap (drop (length (piece w v))) e ∙ drop_at (piece w v) rest (length (piece w v)) refl,
)

ended-feed : (at : ℕ) (s rest : List ℕ) (f : Flow) → drop at s ≡ feed ++ rest → ended_at at s f ≡ Some (f, at + 1)
unfolding ended_at
ended-feed at s rest f e = rw (ap (starts feed) e ∙ starts-append feed rest)

-- at a place of a sheet
pub line_at_reads : (at : ℕ) (s rest : List ℕ) (f : Flow) → Short f → drop at s ≡ line f ++ rest → line_at at s ≡ Some (f, at + length (line f))
line_at_reads at s rest f h t =
    let r₄ : List ℕ = feed ++ rest in
    let r₃ : List ℕ = piece jitter f.jitter ++ r₄ in
    let r₂ : List ℕ = piece every f.interval ++ r₃ in
    let r₁ : List ℕ = piece size f.size ++ r₂ in
    let a : ℕ = at + length (piece flow f.number) in
    let b : ℕ = a + length (piece size f.size) in
    let d : ℕ = b + length (piece every f.interval) in
    let e : ℕ = d + length (piece jitter f.jitter) in
    let n = piece-found flow f.number r₁ s at h.0 (run-piece size f.size r₂ words_run.0 (lit< tt)) (t ∙ line_then f rest) in
    let z = piece-found size f.size r₂ s a h.1 (run-piece every f.interval r₃ words_run.1 (lit< tt)) n.1 in
    let i = piece-found every f.interval r₃ s b h.2 (run-piece jitter f.jitter r₄ words_run.2 (lit< tt)) z.1 in
    let j = piece-found jitter f.jitter r₄ s d h.3 (run-word feed rest words_run.3 (lit< tt)) i.1 in
    let end : e + 1 ≡ at + length (line f) = omega (arith, length-line f) in
    line_at_is at s ∙ rw (n.0, z.0, i.0, j.0) (ended-feed e s rest f j.1) ∙ ap (λ (k : ℕ). Some (f, k)) end

-- and by itself
pub read-line : (f : Flow) → Short f → read (line f) ≡ Some f
read-line f h =
    let all : length (line f) ≡ 0 + length (line f) = omega arith in
    read_whole (line f)
    ∙ ap (λ (x : Option (Flow × ℕ)). whole x (length (line f))) (line_at_reads 0 (line f) [] f h (sym (append-nil (line f))))
    ∙ rw (eq-eqb (length (line f)) (0 + length (line f)) all)

-- ---- both together

-- the reader takes the bytes for the line of a flow exactly where they are one
pub read_exactly : (s : List ℕ) (f : Flow) → (read s ≡ Some f) ↔ LineOf f s
read_exactly s f = (
  read-line_of s f,
  λ l. let is = line_of_is f s l in ap read is.1 ∙ read-line f is.0,
)
