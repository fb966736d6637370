-- The table's rule: narrow widths that make whole bytes, for each kind of record. Assumes nothing.
use mathlib.Core.Path.{◌≡◌, refl}
use mathlib.Core.Bool.{true, ◌&&◌}
use mathlib.Core.List.{List, [], ◌∷◌}
use Prim.Native.Nat.{ℕ, zero, suc, ◌*◌, ◌≤◌, ◌<◌, zero-le}
use lib.Dec.{leb, lit≤, lit<}
use lib.ListN.{get_or}
use borrow.Author.Tests.{leb-true}
use Rattle.logic.specs.Lists.{every}
use Rattle.logic.proofs.Tests.{and_both}
use Rattle.fields.specs.declared.kind.Kind.{Kind}
use Rattle.fields.specs.declared.kind.Kind.TheVariants.{ListHead, ListRecord, TableHead, TableRecord}
use Rattle.fields.specs.Packed.{total, Narrow}
use Rattle.fields.specs.Kinds.{widths, bytes}

-- a bound on each entry, by a test that computes
each_le : (b : ℕ) (xs : List ℕ) → every (λ x. leb x b) xs ≡ true → (k : ℕ) → get_or xs k 0 ≤ b
unfolding every
each_le b [] t k = zero-le
each_le b (x ∷ xs) t zero = leb-true x b (and_both (leb x b) (every (λ x. leb x b) xs) t).0
each_le b (x ∷ xs) t (suc k) = each_le b xs (and_both (leb x b) (every (λ x. leb x b) xs) t).1 k

narrow_by : (ws : List ℕ) → every (λ x. leb x 16) ws && leb (total ws) 64 ≡ true → Narrow ws
narrow_by ws t =
    let both = and_both (every (λ x. leb x 16) ws) (leb (total ws) 64) t in
    record { each = each_le 16 ws both.0; whole = leb-true (total ws) 64 both.1 }

pub narrow : (k : Kind) → Narrow (widths k)
unfolding every total
narrow ListHead = narrow_by (widths ListHead) refl
narrow ListRecord = narrow_by (widths ListRecord) refl
narrow TableHead = narrow_by (widths TableHead) refl
narrow TableRecord = narrow_by (widths TableRecord) refl

pub whole-bytes : (k : Kind) → total (widths k) ≡ 8 * bytes k
unfolding total
whole-bytes ListHead = refl
whole-bytes ListRecord = refl
whole-bytes TableHead = refl
whole-bytes TableRecord = refl

pub bytes_le : (k : Kind) → bytes k ≤ 8
bytes_le ListHead = lit≤ tt
bytes_le ListRecord = lit≤ tt
bytes_le TableHead = lit≤ tt
bytes_le TableRecord = lit≤ tt

pub bytes_pos : (k : Kind) → 0 < bytes k
bytes_pos ListHead = lit< tt
bytes_pos ListRecord = lit< tt
bytes_pos TableHead = lit< tt
bytes_pos TableRecord = lit< tt
