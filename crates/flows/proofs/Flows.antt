-- A flow's rule, and its record there and back. Assumes nothing.
use mathlib.Core.Path.{◌≡◌, ap, ◌∙◌}
use mathlib.Core.Bool.{true}
use mathlib.Core.List.{List, [], ◌∷◌, ◌++◌}
use Prim.Native.Nat.{ℕ, ◌≤◌, ◌<◌}
use native.Mathlib.Omega.{arith}
use lib.Dec.{leb, lit<}
use lib.ListN.{length, get_or, take}
use borrow.Author.Tests.{lt-ltb, le-leb, ltb-true, leb-true}
use Rattle.logic.specs.Numbers.{among}
use Rattle.logic.proofs.Tests.{by_lt, and_both, among_both}
use Rattle.fields.specs.declared.kind.Kind.TheVariants.{ListRecord}
use Rattle.flows.specs.declared.flow.Flow.{Flow}
use Rattle.fields.specs.Packed.{Fit}
use Rattle.fields.specs.Kinds.{widths}
use Rattle.fields.specs.Records.{packed, values_of}
use Rattle.flows.specs.Flows.{no_flow, keeps, fields_of, flow_with, flow_of, packed_flow}
use Rattle.fields.proofs.Packed.{four-values}
use Rattle.fields.proofs.Records.{length-packed, values_short, values-packed, packed_front, values_fit}

-- the rule, as orders
pub record Keeps (f : Flow) : Type 0 where
  pub numbered : 1 ≤ f.number
  pub number_le : f.number ≤ 1023
  pub sized : 1 ≤ f.size
  pub size_le : f.size ≤ 4095
  pub timed : 1 ≤ f.interval
  pub interval_le : f.interval ≤ 4096
  pub fitting : f.size ≤ f.interval
  pub tolerable : f.jitter < f.interval

-- out of its tests
pub keeps_by : (f : Flow) → among 1 1023 f.number ≡ true → among 1 4095 f.size ≡ true → among 1 4096 f.interval ≡ true → f.size ≤ f.interval → f.jitter < f.interval → Keeps f
keeps_by f a b d e g =
    let n = among_both 1 1023 f.number a in
    let s = among_both 1 4095 f.size b in
    let i = among_both 1 4096 f.interval d in
    record { numbered = n.0; number_le = n.1; sized = s.0; size_le = s.1; timed = i.0; interval_le = i.1; fitting = e; tolerable = g }

pub keeps_is : (f : Flow) → keeps f ≡ true → Keeps f
unfolding keeps
keeps_is f h =
    let a = and_both (among 1 1023 f.number) _ h in
    let b = and_both (among 1 4095 f.size) _ a.1 in
    let d = and_both (among 1 4096 f.interval) _ b.1 in
    let e = and_both (leb f.size f.interval) _ d.1 in
    keeps_by f a.0 b.0 d.0 (leb-true _ _ e.0) (ltb-true _ _ e.1)

-- and a flow that keeps it passes the test
pub rule_kept : (f : Flow) → Keeps f → keeps f ≡ true
unfolding keeps
rule_kept f k =
    rw (le-leb _ _ k.numbered, le-leb _ _ k.number_le, le-leb _ _ k.sized, le-leb _ _ k.size_le, le-leb _ _ k.timed, le-leb _ _ k.interval_le, le-leb _ _ k.fitting, lt-ltb _ _ k.tolerable)

-- ---- the record

-- a flow that keeps its rule has fields that fit their widths
pub keeps_fit : (f : Flow) → Keeps f → Fit (widths ListRecord) (fields_of f)
keeps_fit f k = (omega arith, (omega arith, (omega arith, (omega arith, (lit< tt, (lit< tt, tt))))))

pub length-packed_flow : (f : Flow) → length (packed_flow f) ≡ 6
unfolding packed_flow
length-packed_flow f = length-packed ListRecord (fields_of f)

-- fewer bytes than a record has are no record
pub flow_short : (bs : List ℕ) → length bs < 6 → flow_of bs ≡ no_flow
unfolding flow_of
flow_short bs h = ap flow_with (values_short ListRecord bs h)

-- the number that is read has 10 bits, the interval 13
pub flow_small : (bs : List ℕ) → ((flow_of bs).number < 1024) × ((flow_of bs).interval < 8192)
unfolding flow_of
flow_small bs = by_lt (length bs) 6 (λ h. rw (values_short ListRecord bs h) (omega arith, omega arith)) (λ h. read (values_of ListRecord bs) (values_fit ListRecord bs h))
  where
    read : (vs : List ℕ) → Fit (widths ListRecord) vs → (get_or vs 0 0 < 1024) × (get_or vs 2 0 < 8192)
    read [] f = absurd f
    read (a ∷ []) f = absurd f.1
    read (a ∷ b ∷ []) f = absurd f.1.1
    read (a ∷ b ∷ c ∷ vs) f = (f.0, f.1.1.0)

-- none of the four that are read has more than four digits
pub flow_digits : (bs : List ℕ) → let f = flow_of bs in (f.number < 10000) × (f.size < 10000) × (f.interval < 10000) × (f.jitter < 10000)
unfolding flow_of
flow_digits bs = by_lt (length bs) 6 (λ h. rw (values_short ListRecord bs h) (omega arith, omega arith, omega arith, omega arith)) (λ h. read (values_of ListRecord bs) (values_fit ListRecord bs h))
  where
    read : (vs : List ℕ) → Fit (widths ListRecord) vs → (get_or vs 0 0 < 10000) × (get_or vs 1 0 < 10000) × (get_or vs 2 0 < 10000) × (get_or vs 3 0 < 10000)
    read [] f = absurd f
    read (a ∷ []) f = absurd f.1
    read (a ∷ b ∷ []) f = absurd f.1.1
    read (a ∷ b ∷ c ∷ []) f = absurd f.1.1.1
    read (a ∷ b ∷ c ∷ d ∷ vs) f = (omega (arith, f.0), omega (arith, f.1.0), omega (arith, f.1.1.0), omega (arith, f.1.1.1.0))

-- a record is read back, whatever stands behind it
pub flow-packed : (f : Flow) (rest : List ℕ) → Keeps f → flow_of (packed_flow f ++ rest) ≡ f
unfolding flow_of packed_flow
flow-packed f rest k = ap flow_with (values-packed ListRecord (fields_of f) rest (keeps_fit f k))

-- and the bytes of a whole record are written back
pub packed_flow_lem : (s : List ℕ) → 6 ≤ length s → ((i : ℕ) → get_or s i 0 < 256) → packed_flow (flow_of s) ≡ take 6 s
unfolding flow_of packed_flow
packed_flow_lem s h b = ap (packed ListRecord) (four-values 10 12 13 13 (values_of ListRecord s) (values_fit ListRecord s h)) ∙ packed_front ListRecord s h b
