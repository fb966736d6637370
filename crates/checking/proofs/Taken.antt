-- A grant of the table, and the flow of the list that it belongs to. Assumes nothing.
use Rattle.std.proofs.Common.{◌≡◌, sym, ap, ◌∙◌, true, List, ℕ, ◌≤◌, ◌<◌, arith, length, get_or, Option, Some, None, IfSome}
use Rattle.flows.specs.declared.flow.Flow.{Flow}
use Rattle.flows.specs.Flows.{no_flow}
use Rattle.refusals.proofs.Walks.{before}
use Rattle.tables.specs.declared.packed.Grant.{Grant}
use Rattle.law.specs.Check.{known, look, last, timely}
use Rattle.law.specs.Law.{blank}
use Rattle.finding.specs.Parts.{record_of}
use Rattle.finding.proofs.Places.{found_is}
use Rattle.checking.specs.Parts.{number_of, stamp_of, on_time}
use Rattle.checking.proofs.Cells.{Lasts}
use Rattle.checking.proofs.Steps.{timely_by}

-- a record that is found is one of the list
pub found_inside : (fs : List Flow) → length fs ≤ 128 → (x : ℕ) (r : Option ℕ) → r ≡ record_of fs x → IfSome r (λ k. k < 128)
found_inside fs few x None e = tt
found_inside fs few x (Some k) e = let found = found_is fs x k e in omega (arith, found.0)

-- f is its flow, record k of the list; the flow's cell says its last grant before record i
pub record Taken (fs : List Flow) (gs : List Grant) (i : ℕ) (cs : List ℕ) (g : Grant) (k : ℕ) (f : Flow) : Type 0 where
  pub inside : k < length fs
  pub listed : known fs g.flow ≡ true
  pub number : number_of fs k ≡ g.flow
  pub read : f ≡ get_or fs k no_flow
  pub own : f ≡ look fs g.flow
  pub timed : on_time f.jitter f.interval (get_or cs k 0) g.start g.late ≡ timely 0 fs (before gs blank i) g

pub taken : (fs : List Flow) (gs : List Grant) (i : ℕ) (cs : List ℕ) (g : Grant) (k : ℕ) (f : Flow) → Lasts fs gs i cs
    → Some k ≡ record_of fs g.flow → (k < length fs → f ≡ get_or fs k no_flow) → Taken fs gs i cs g k f
taken fs gs i cs g k f a e q =
    let found = found_is fs g.flow k e in
    let read = q found.0 in
    let own = read ∙ sym found.2 in
    record {
      inside = found.0;
      listed = found.1;
      number = found.3;
      read = read;
      own = own;
      timed = timely_by fs (before gs blank i) g f (get_or cs k 0) own (a k found.0 ∙ ap (λ (x : ℕ). stamp_of (last 0 x (before gs blank i))) found.3);
    }
