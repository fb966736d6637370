-- The lines of a list's flows, one behind the other. Assumes nothing.
use Rattle.std.proofs.Common.{◌≡◌, ℕ, zero, suc, ◌+◌, List, [], ◌++◌, sym, ap, ◌∙◌, arith}
use mathlib.Core.List.{append_assoc, append-nil}
use native.Mathlib.Numerals.{add-one}
use Rattle.flows.specs.declared.flow.Flow.{Flow}
use Rattle.lists.specs.Lists.{count, flow_at, flows_from, flows_of}
use Rattle.sheets.specs.Texts.{line, text}
use Rattle.sheets.proofs.Texts.{text-none, text_is}

-- those of no record
pub text_start : (l : List ℕ) → text (flows_from l 0 0) ≡ []
unfolding flows_from
text_start l = text-none

text_more : (l : List ℕ) (i n : ℕ) → text (flows_from l i (suc n)) ≡ text (flows_from l i n) ++ line (flow_at l (i + n))
unfolding flows_from text
text_more l i zero = let e : i + 0 ≡ i = omega arith in rw e (append-nil (line (flow_at l i)))
text_more l i (suc n) =
    let e : suc i + n ≡ i + suc n = omega arith in
    ap (λ bs. line (flow_at l i) ++ bs) (rw e at (text_more l (suc i) n)) ∙ sym (append_assoc (line (flow_at l i)) (text (flows_from l (suc i) n)) (line (flow_at l (i + suc n))))

-- those of a record more, whose flow is f
pub text_next : (l : List ℕ) (n : ℕ) (f : Flow) → f ≡ flow_at l n → text (flows_from l 0 (n + 1)) ≡ text (flows_from l 0 n) ++ line f
text_next l n f q = let e : 0 + n ≡ n = omega arith in rw (add-one, q) (rw e at (text_more l 0 n))

-- the flows of as many records as the head says are the list's
pub flows_of_lem : (l : List ℕ) (n : ℕ) → n ≡ count l → flows_from l 0 n ≡ flows_of l
unfolding flows_of
flows_of_lem l n e = ap (flows_from l 0) e
