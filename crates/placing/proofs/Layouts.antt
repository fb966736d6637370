-- A layout repeated, and a layout when a group ends. Assumes nothing.
use mathlib.Core.Path.{◌≡◌, refl, ap, ◌∙◌}
use mathlib.Core.List.{List, [], ◌∷◌, ◌++◌, map, map-append}
use Prim.Native.Nat.{ℕ, zero, suc, ◌+◌, ◌*◌}
use native.Mathlib.Omega.{arith}
use lib.ListN.{length, length-append, length-map}
use Rattle.logic.specs.Lists.{All, sum}
use Rattle.logic.proofs.Appends.{all_append, sum-append}
use Rattle.flows.specs.declared.flow.Flow.{Flow}
use Rattle.lists.specs.Facts.{occupies}
use Rattle.placing.specs.Rule.{Settled, Frame, weight, content, past, olds, rep, opened, settle}
use Rattle.placing.proofs.Overhangs.{passing, Each, passing-append, each_append}
use Rattle.placing.proofs.Placed.{newly, Newly}

-- a frame of a layout before the next group's first flow is placed
abbrev pub unfilled : List Settled → Frame
unfilled h = record { old = h; new = [] }

pub content-unfilled : (h : List Settled) → content (unfilled h) ≡ weight h
unfolding content sum
content-unfilled h = omega arith

opened-append : (gs hs : List (List Settled)) → opened (gs ++ hs) ≡ opened gs ++ opened hs
unfolding opened
opened-append = map-append unfilled

pub opened-olds : (hs : List (List Settled)) → olds (opened hs) ≡ hs
unfolding opened olds
opened-olds [] = refl
opened-olds (h ∷ hs) = ap (λ (l : List (List Settled)). h ∷ l) (opened-olds hs)

pub opened-length : (hs : List (List Settled)) → length (opened hs) ≡ length hs
unfolding opened
opened-length hs = length-map hs unfilled

pub opened-newly : (v : Flow → ℕ) (hs : List (List Settled)) → newly v (opened hs) ≡ 0
unfolding opened newly sum
opened-newly v [] = refl
opened-newly v (h ∷ hs) = omega (arith, opened-newly v hs)

pub opened-news : (P : Flow → Type 0) (hs : List (List Settled)) → Newly P (opened hs)
unfolding opened
opened-news P [] = tt
opened-news P (h ∷ hs) = (tt, opened-news P hs)

-- the weights of a layout's grants
unfoldable pub granted : (Flow → ℕ) → List (List Settled) → ℕ
granted v hs = sum (λ h. sum (λ (g : Settled). v g.flow) h) hs

-- ---- a layout m times over

pub rep-length : (m : ℕ) (hs : List (List Settled)) → length (rep m hs) ≡ m * length hs
unfolding rep
rep-length zero hs = omega arith
rep-length (suc m) hs = omega (arith, length-append hs (rep m hs), rep-length m hs)

pub rep-granted : (v : Flow → ℕ) (m : ℕ) (hs : List (List Settled)) → granted v (rep m hs) ≡ m * granted v hs
unfolding rep granted sum
rep-granted v zero hs = omega arith
rep-granted v (suc m) hs = omega (arith, sum-append (λ h. sum (λ (g : Settled). v g.flow) h) hs (rep m hs), rep-granted v m hs)

-- where nothing passes the end of a layout, nothing passes the end of its copies, and each copy is as the first
module _ (φ : ℕ) (hs : List (List Settled)) (clear : passing φ 0 (opened hs) ≡ 0) where
  pub rep-passing : (m : ℕ) → passing φ 0 (opened (rep m hs)) ≡ 0
  unfolding rep passing opened
  rep-passing zero = refl
  rep-passing (suc m) = rw (opened-append hs (rep m hs), passing-append φ 0 (opened hs) (opened (rep m hs)), clear) (rep-passing m)

  pub rep_each : (P : ℕ → List Settled → Type 0) (m : ℕ) → Each P φ 0 (opened hs) → Each P φ 0 (opened (rep m hs))
  unfolding rep opened
  rep_each P zero a = tt
  rep_each P (suc m) a = rw (opened-append hs (rep m hs)) (each_append P φ 0 (opened hs) (opened (rep m hs)) a (rw clear (rep_each P m a)))

-- ---- a group's end

-- a grant of the group that ends
abbrev pub settled : ℕ → Flow → Settled
settled o f = record { flow = f; base = o }

settled-sum : (v : Flow → ℕ) (o : ℕ) (fs : List Flow) → sum (λ (g : Settled). v g.flow) (map (settled o) fs) ≡ sum v fs
unfolding sum
settled-sum v o [] = refl
settled-sum v o (f ∷ fs) = omega (arith, settled-sum v o fs)

settled-all : (Q : Settled → Type 0) (P : Flow → Type 0) (o : ℕ) → ((f : Flow) → P f → Q (settled o f)) → (fs : List Flow) → All P fs → All Q (map (settled o) fs)
settled-all Q P o h [] a = tt
settled-all Q P o h (f ∷ fs) a = (h f a.0, settled-all Q P o h fs a.1)

content-settled : (o : ℕ) (x : Frame) → content (unfilled (x.old ++ map (settled o) x.new)) ≡ content x
unfolding content weight sum
content-settled o x = omega (arith, sum-append (λ (g : Settled). occupies g.flow) x.old (map (settled o) x.new), settled-sum occupies o x.new)

pub settle-length : (φ o : ℕ) (xs : List Frame) → length (settle φ o xs) ≡ length xs
unfolding settle
settle-length φ o [] = refl
settle-length φ o (x ∷ xs) = ap suc (settle-length φ (past φ o (content x)) xs)

pub settle-passing : (φ o : ℕ) (xs : List Frame) → passing φ o (opened (settle φ o xs)) ≡ passing φ o xs
unfolding passing settle opened
settle-passing φ o [] = refl
settle-passing φ o (x ∷ xs) =
    ap (λ (c : ℕ). passing φ (past φ o c) (opened (settle φ (past φ o (content x)) xs))) (content-settled o x) ∙ settle-passing φ (past φ o (content x)) xs

-- what holds of each grant still holds, if it holds of the group's own
pub settle_each : (Q : ℕ → Settled → Type 0) (P : Flow → Type 0) → ((o : ℕ) (f : Flow) → P f → Q o (settled o f))
    → (φ o : ℕ) (xs : List Frame) → Newly P xs → Each (λ o h. All (Q o) h) φ o xs → Each (λ o h. All (Q o) h) φ o (opened (settle φ o xs))
unfolding settle opened
settle_each Q P k φ o [] n a = tt
settle_each Q P k φ o (x ∷ xs) n a = (
  all_append (Q o) x.old (map (settled o) x.new) a.0 (settled-all (Q o) P o (k o) x.new n.0),
  rw (content-settled o x) (settle_each Q P k φ (past φ o (content x)) xs n.1 a.1),
)

pub settle-granted : (v : Flow → ℕ) (φ o : ℕ) (xs : List Frame) → granted v (settle φ o xs) ≡ granted v (olds xs) + newly v xs
unfolding settle granted olds newly sum
settle-granted v φ o [] = refl
settle-granted v φ o (x ∷ xs) =
    omega (
      arith,
      sum-append (λ (g : Settled). v g.flow) x.old (map (settled o) x.new),
      settled-sum v o x.new,
      settle-granted v φ (past φ o (content x)) xs,
    )
