-- The lines of a table's grants, one behind the other. Assumes nothing.
use Rattle.std.proofs.Common.{◌≡◌, ℕ, zero, suc, ◌+◌, List, [], ◌++◌, sym, ap, ◌∙◌, refl, arith}
use mathlib.Core.List.{append_assoc, append-nil}
use native.Mathlib.Numerals.{add-one}
use Rattle.tables.specs.declared.packed.Grant.{Grant}
use Rattle.tables.specs.Tables.{grant_at, grants_from}
use Rattle.texts.specs.Texts.{grant_line, grant_lines}

-- those of no record
pub lines_none : (t : List ℕ) → grant_lines (grants_from t 0 0) ≡ []
unfolding grants_from grant_lines
lines_none t = refl

lines_more : (t : List ℕ) (i n : ℕ) → grant_lines (grants_from t i (suc n)) ≡ grant_lines (grants_from t i n) ++ grant_line (grant_at t (i + n))
unfolding grants_from grant_lines
lines_more t i zero = let e : i + 0 ≡ i = omega arith in rw e (append-nil (grant_line (grant_at t i)))
lines_more t i (suc n) =
    let e : suc i + n ≡ i + suc n = omega arith in
    ap (λ bs. grant_line (grant_at t i) ++ bs) (rw e at (lines_more t (suc i) n)) ∙ sym (append_assoc (grant_line (grant_at t i)) (grant_lines (grants_from t (suc i) n)) (grant_line (grant_at t (i + suc n))))

-- those of a record more, whose grant is g
pub lines_next : (t : List ℕ) (n : ℕ) (g : Grant) → g ≡ grant_at t n → grant_lines (grants_from t 0 (n + 1)) ≡ grant_lines (grants_from t 0 n) ++ grant_line g
lines_next t n g q = let e : 0 + n ≡ n = omega arith in rw (add-one, q) (rw e at (lines_more t 0 n))
