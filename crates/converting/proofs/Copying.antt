-- The flows of one call, which differ in their numbers alone: tested at once and written one behind the other. Assumes nothing.
use Rattle.std.proofs.Common.{◌≡◌, true, false, Some, None, List, ◌∷◌, map, ℕ, zero, suc, ◌+◌, ◌-◌, ◌≤◌, ◌<◌, length, refl, sym, ap, ◌∙◌, arith, le-leb}
use Rattle.std.proofs.lemmas.List.Edits.{sets}
use Rattle.logic.proofs.Tests.{true-not-false}
use Rattle.flows.specs.declared.flow.Flow.{Flow}
use Rattle.flows.specs.Flows.{keeps, asked}
use Rattle.flows.proofs.Flows.{keeps_is}
use Rattle.flows.proofs.Asking.{asked_kept, asked-broken}
use Rattle.refusals.specs.declared.Refusal.TheVariants.{Field}
use Rattle.refusals.specs.Results.{Passed, Refused}
use Rattle.refusals.specs.Tests.{lowest}
use Rattle.lists.specs.Lists.{place, records, record_after}
use Rattle.lists.proofs.Writing.{records-none, record_next}
use Rattle.settings.specs.declared.Call.{Call}
use Rattle.settings.specs.Slots.{Channel, flow_for, flows_for}
use Rattle.converting.specs.Parts.{renumbered, copies, Copied, CallWritten}

-- the flows of a call are copies of its first
pub for_copies : (ch : Channel) (c : Call) (n k : ℕ) → flows_for ch n c k ≡ copies (flow_for ch 1 c) n k
unfolding flows_for flow_for copies
for_copies ch c n zero = refl
for_copies ch c n (suc k) = ap (λ (fs : List Flow). flow_for ch n c ∷ fs) (for_copies ch c (suc n) k)

-- ---- the rule, which a number from 1 to 1023 keeps

module _ (f : Flow) (first : f.number ≡ 1) where
  keeps-copy : (n : ℕ) → 1 ≤ n → n ≤ 1023 → keeps (renumbered n f) ≡ keeps f
  unfolding keeps
  keeps-copy n low high = rw (first, le-leb 1 n low, le-leb n 1023 high)

  -- a rule that is kept is kept by all
  pub copies_kept : (n k : ℕ) → 1 ≤ n → n + k ≤ 1024 → keeps f ≡ true → lowest Field n (map keeps (copies f n k)) ≡ Passed
  unfolding lowest copies
  copies_kept n zero low high e = refl
  copies_kept n (suc k) low high e = rw (keeps-copy n low (omega arith), e) (copies_kept (suc n) k (omega arith) (omega arith) e)

  -- a rule that is broken is broken by the first
  pub copies-broken : (n k : ℕ) → 1 ≤ n → n ≤ 1023 → 0 < k → keeps f ≡ false → lowest Field n (map keeps (copies f n k)) ≡ Refused (Field n)
  unfolding lowest copies
  copies-broken n zero low high some e = absurd (omega (arith, some))
  copies-broken n (suc k) low high some e = rw (keeps-copy n low high, e)

-- ---- the records

-- the records from i on are left
pub record CopyAt (f : Flow) (n k : ℕ) (before : List ℕ) (i : ℕ) (list : List ℕ) : Type 0 where
  pub to : i ≤ n + k
  pub same : length list ≡ length before
  pub writes : keeps f ≡ true → place (n + k) ≤ length before
      → sets list (place i) (records (copies f (suc i) ((n + k) - i))) ≡ sets before (place n) (records (copies f (suc n) k))

module _ (f : Flow) (n k : ℕ) (before : List ℕ) where
  pub copy_start : CopyAt f n k before n before
  copy_start =
      let all : (n + k) - n ≡ k = omega arith in
      record { to = omega arith; same = refl; writes = λ e h. rw all }

  module _ (first : f.number ≡ 1) (few : n + k ≤ 129) (i : ℕ) (list : List ℕ) (at : CopyAt f n k before i list) where
    pub copy_next : i < n + k → (g : Flow) → g ≡ renumbered (i + 1) f → (new : List ℕ) → length new ≡ length list → new ≡ record_after g i list → CopyAt f n k before (i + 1) new
    unfolding copies
    copy_next h g eg new l w =
        let m : ℕ = (n + k) - (i + 1) in
        let left : (n + k) - i ≡ suc m = omega arith in
        let rest : List Flow = copies f (suc (suc i)) m in
        let next : i + 1 ≡ suc i = omega arith in
        record {
          to = omega arith;
          same = l ∙ at.same;
          writes = λ e room.
              let is : keeps g ≡ true = ap keeps eg ∙ keeps-copy f first (i + 1) (omega arith) (omega (arith, h, few)) ∙ e in
              cc (record_next g rest i list (keeps_is g is) (omega (arith, h, room, at.same)), at.writes e room);
        }

    pub copy_end : n + k ≤ i → Copied f n k before list
    unfolding copies
    copy_end h =
        let none : (n + k) - i ≡ 0 = omega arith in
        record {
          same = at.same;
          copied = λ e room. rw (none, records-none) at (at.writes e room);
        }

-- ---- a call

module _ (ch : Channel) (c : Call) (n k : ℕ) (before : List ℕ) where
  -- that makes no flow
  pub call_none : k ≡ 0 → CallWritten ch c n k before true before
  unfolding flows_for lowest records
  call_none e = rw e (record { same = refl; tested = λ h. refl; written = λ t h. refl })

  module _ (few : n + k ≤ 129) where
    -- whose flow breaks its rule
    pub call_broken : 0 < k → None ≡ asked (flow_for ch 1 c) → CallWritten ch c n k before false before
    unfolding flow_for
    call_broken some none =
        record {
          same = refl;
          tested = λ h. rw (for_copies ch c (suc n) k)
              (copies-broken (flow_for ch 1 c) refl (suc n) k (omega arith) (omega (arith, few)) some (asked-broken _ (sym none)));
          written = λ t h. true-not-false (sym t);
        }

    module _ (f : Flow) (kept : Some f ≡ asked (flow_for ch 1 c)) where
      flow_is : flow_for ch 1 c ≡ f
      flow_is = (asked_kept _ f (sym kept)).0

      -- whose flow keeps it: it is copied
      pub call_first : (f.number ≡ 1) × (n + k ≤ 129)
      unfolding flow_for
      call_first = (ap (λ (g : Flow). g.number) (sym flow_is), few)

      pub call_kept : (after : List ℕ) → Copied f n k before after → CallWritten ch c n k before true after
      call_kept after w =
          let own : flows_for ch (suc n) c k ≡ copies f (suc n) k = rw (for_copies ch c (suc n) k, flow_is) in
          let keeps_rule : keeps f ≡ true = ap keeps (sym flow_is) ∙ (asked_kept _ f (sym kept)).1 in
          record {
            same = w.same;
            tested = λ h. rw own (copies_kept f call_first.0 (suc n) k (omega arith) (omega (arith, few)) keeps_rule);
            written = λ t h. rw own (w.copied keeps_rule h);
          }
