-- The slots of a grant, by the record that the index finds. Assumes nothing.
use Rattle.std.proofs.Common.{◌≡◌, ◌∙◌, sym, ap, refl, List, [], ◌∷◌, ℕ, suc, Option, Some, None, MatchOption, eqb, arith}
use Rattle.logic.proofs.Tests.{by_test}
use Rattle.flows.specs.declared.flow.Flow.{Flow}
use Rattle.flows.specs.Flows.{no_flow}
use Rattle.lists.specs.Lists.{flow_at, flows_of}
use Rattle.lists.specs.Facts.{occupies}
use Rattle.lists.proofs.Records.{length-flows, flow_is}
use Rattle.tables.specs.declared.packed.Grant.{Grant}
use Rattle.law.specs.Check.{look, slots}
use Rattle.finding.specs.Parts.{record_from, record_of}
use Rattle.finding.proofs.Places.{found_is}

-- a flow that no record has is no flow
none_looked : (fs : List Flow) (x k : ℕ) → record_from k fs x ≡ None → look fs x ≡ no_flow
unfolding record_from look
none_looked [] x k e = refl
none_looked (f ∷ fs) x k e =
    by_test (eqb f.number x)
    (λ t. let s : Some k ≡ None = rw (t, record_from) at e in let z : ◌≡◌ {A = ℕ} 0 1 = cc in absurd (omega arith))
    (λ t. rw (t, look) (none_looked fs x (suc k) (rw (t, record_from) at e)))

-- they are those of the flow of the record that is found, and none where none is
pub slots_found : (l : List ℕ) (g : Grant) (r : Option ℕ) (n : ℕ) → r ≡ record_of (flows_of l) g.flow
    → MatchOption r (n ≡ 0) (λ k. n ≡ occupies (flow_at l k)) → n ≡ slots (flows_of l) g
unfolding slots occupies
slots_found l g None n e m = m ∙ ap occupies (sym (none_looked (flows_of l) g.flow 0 (sym e)))
slots_found l g (Some k) n e m =
    let is = found_is (flows_of l) g.flow k e in
    m ∙ ap occupies (flow_is l k (flow_at l k) (omega (arith, is.0, length-flows l)) refl ∙ sym is.2)
