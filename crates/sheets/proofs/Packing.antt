-- The records of a sheet's flows written into a list as its lines are read, and the list put into a room. Assumes nothing.
use mathlib.Core.Path.{◌≡◌, refl, sym, ap, ◌∙◌}
use mathlib.Core.Bool.{true}
use mathlib.Core.List.{List, ◌∷◌, ◌++◌}
use Prim.Native.Nat.{ℕ, ◌+◌, ◌-◌, ◌≤◌}
use native.Mathlib.Omega.{arith}
use lib.ListN.{length, take, drop, length-take}
use lib.Seq.{sets, length-sets, take_at, drop_at}
use Rattle.logic.specs.Lists.{All}
use Rattle.logic.proofs.Rooms.{sets_between}
use Rattle.fields.specs.declared.kind.Kind.TheVariants.{ListHead}
use Rattle.std.proofs.Common.{Some}
use Rattle.flows.specs.declared.flow.Flow.{Flow}
use Rattle.fields.specs.Records.{room_after}
use Rattle.flows.specs.Flows.{keeps}
use Rattle.flows.proofs.Flows.{keeps_is}
use Rattle.words.specs.Places.{put_at}
use Rattle.words.proofs.Places.{put-fits}
use Rattle.lists.specs.Lists.{head_fields, head, place, records, list_of, record_after}
use Rattle.lists.proofs.RoundTrip.{length-records, length_list}
use Rattle.lists.proofs.Writing.{head-written, records-none, record_next, list_written}
use Rattle.sheets.specs.Readings.{flows_in}
use Rattle.sheets.specs.Reader.{line_at}
use Rattle.sheets.proofs.Walk.{flows-next, flows_done}
use Rattle.sheets.proofs.Tests.{Sound}

-- i records are written in `list`, which was `before`, and the lines from the place on are left
pub record PackAt (s before : List ℕ) (at i : ℕ) (list : List ℕ) : Type 0 where
  pub kept : All (λ f. keeps f ≡ true) (flows_in (drop at s))
  pub room_left : place i + length (records (flows_in (drop at s))) ≤ length list
  pub writes : sets list (place i) (records (flows_in (drop at s))) ≡ sets before 4 (records (flows_in s))

pub pack-start : (s list : List ℕ) → Sound s → 772 ≤ length list → PackAt s list 0 0 list
pack-start s list p h =
    record { kept = p.kept; room_left = omega (arith, length-records (flows_in s), p.few); writes = refl }

module _ (s before : List ℕ) (at i : ℕ) (list : List ℕ) (pack : PackAt s before at i list) where
  pub pack_end : length s ≤ at → list ≡ sets before 4 (records (flows_in s))
  pack_end h = ap (sets list (place i)) (sym (ap records (flows_done s at h) ∙ records-none)) ∙ pack.writes

  -- at a line of the flow f, with the place e behind it
  pub pack-next : (f : Flow) (e : ℕ) → Some (f, e) ≡ line_at at s → (new : List ℕ) → length new ≡ length list → new ≡ record_after f i list
      → PackAt s before e (i + 1) new
  pack-next f e g new l w =
      let next = flows-next s at f e g in
      let size : length (records (flows_in (drop at s))) ≡ 6 + length (records (flows_in (drop e s))) =
      ap (λ (fs : List Flow). length (records fs)) next ∙ length-records (f ∷ flows_in (drop e s)) ∙ omega (arith, length-records (flows_in (drop e s))) in
      let p = rw next at pack.kept in
      record {
        kept = p.1;
        room_left = omega (arith, size, pack.room_left);
        writes =
            ap (λ (r : List ℕ). sets r (place (i + 1)) (records (flows_in (drop e s)))) w
            ∙ record_next f (flows_in (drop e s)) i list (keeps_is f p.0) (omega (arith, size, pack.room_left))
            ∙ ap (λ (fs : List Flow). sets list (place i) (records fs)) (sym next)
            ∙ pack.writes;
      }

-- what was written at a place of a list stands there
taken : (ws list : List ℕ) (at k : ℕ) → at + length ws ≤ length list → k ≡ length ws → take k (drop at (sets list at ws)) ≡ ws
taken ws list at k h e =
    let front : length (take at list) ≡ at = omega (arith, length-take at list) in
    let rest : List ℕ = drop (at + length ws) list in
    ap (λ (l : List ℕ). take k (drop at l)) (sym (sets_between ws list at (length ws) refl h))
    ∙ ap (take k) (drop_at (take at list) (ws ++ rest) at front)
    ∙ take_at ws rest k (sym e)

-- the head, and the records behind it, as the calls give them
pub list_packed : (fs : List Flow) (n : ℕ) (before list room x out : List ℕ) → n ≡ length fs → n ≤ 128 → 772 ≤ length before → place n ≤ length room
    → list ≡ sets before 4 (records fs) → x ≡ room_after ListHead (head_fields n) room → out ≡ put_at x 4 (take (place n - 4) (drop 4 list))
    → out ≡ list_of fs ++ drop (length (list_of fs)) room
list_packed fs n before list room x out e small long h el ex eo =
    let front : x ≡ sets room 0 (head (length fs)) = ex ∙ head-written n room (omega arith) (omega arith) ∙ ap (λ (k : ℕ). sets room 0 (head k)) e in
    let size : place n - 4 ≡ length (records fs) = omega (arith, length-records fs) in
    let part : take (place n - 4) (drop 4 list) ≡ records fs =
    ap (λ (l : List ℕ). take (place n - 4) (drop 4 l)) el ∙ taken (records fs) before 4 (place n - 4) (omega (arith, size)) size in
    let same : length x ≡ length room = ap length front ∙ length-sets room 0 (head (length fs)) in
    eo
    ∙ ap (put_at x 4) part
    ∙ (put-fits 4 (records fs) x (omega (arith, size))).1
    ∙ ap (λ (r : List ℕ). sets r 4 (records fs)) front
    ∙ list_written fs room (omega (arith, length_list fs))
