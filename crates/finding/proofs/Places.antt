-- The place of the first flow with a number, and what a list has of that number. Assumes nothing.
use Rattle.std.proofs.Common.{◌≡◌, refl, sym, ap, ◌∙◌, true, false, ◌⊎◌, List, [], ◌∷◌, ℕ, zero, suc, ◌+◌, ◌<◌, eqb, length, get_or, Some, None, arith, inl, inr, ⊎_elim}
use Rattle.std.proofs.lemmas.Option.{same_Some, none-some}
use borrow.Author.Tests.{eq-eqb, ne_eqb, eqb-true}
use Rattle.logic.proofs.Tests.{by_test}
use Rattle.flows.specs.declared.flow.Flow.{Flow}
use Rattle.flows.specs.Flows.{no_flow}
use Rattle.law.specs.Check.{known, look}
use Rattle.finding.specs.Parts.{record_from, record_of}

-- ---- where it is

at_from : (fs : List Flow) (x k i : ℕ) → i < length fs → (get_or fs i no_flow).number ≡ x → ((j : ℕ) → j < i → (get_or fs j no_flow).number ≡ x → ⊥) → Some (k + i) ≡ record_from k fs x
unfolding record_from
at_from [] x k i h e n = absurd (omega arith)
at_from (f ∷ fs) x k zero h e n = rw (record_from, eq-eqb f.number x e) (ap (λ (m : ℕ). Some m) (omega arith))
at_from (f ∷ fs) x k (suc i) h e n =
    rw (record_from, ne_eqb f.number x (n 0 (omega arith)))
    (ap (λ (m : ℕ). Some m) (omega arith) ∙ at_from fs x (suc k) i (omega arith) e (λ j l. n (suc j) (omega arith)))

none_from : (fs : List Flow) (x k : ℕ) → ((j : ℕ) → j < length fs → (get_or fs j no_flow).number ≡ x → ⊥) → None ≡ record_from k fs x
unfolding record_from
none_from [] x k n = refl
none_from (f ∷ fs) x k n = rw (record_from, ne_eqb f.number x (n 0 (omega arith))) (none_from fs x (suc k) (λ j l. n (suc j) (omega arith)))

module _ (fs : List Flow) (x : ℕ) where
  -- record i has the number, and none before it
  pub record_at : (i : ℕ) → i < length fs → (get_or fs i no_flow).number ≡ x → ((j : ℕ) → j < i → (get_or fs j no_flow).number ≡ x → ⊥) → Some i ≡ record_of fs x
  record_at i h e n = ap (λ (m : ℕ). Some m) (omega arith) ∙ at_from fs x 0 i h e n

  -- no record has the number
  pub record_none : ((j : ℕ) → j < length fs → (get_or fs j no_flow).number ≡ x → ⊥) → None ≡ record_of fs x
  record_none n = none_from fs x 0 n

-- ---- what the list has there

-- flow i, counted from 0, is the list's flow of the number
abbrev pub Here : List Flow → ℕ → ℕ → Type 0
Here fs x i = (i < length fs) × (known fs x ≡ true) × (look fs x ≡ get_or fs i no_flow) × ((get_or fs i no_flow).number ≡ x)

either : (fs : List Flow) (x k : ℕ) → ((known fs x ≡ false) × (None ≡ record_from k fs x)) ⊎ ((i : ℕ) × (Some (k + i) ≡ record_from k fs x) × Here fs x i)
unfolding known look record_from
either [] x k = inl (refl, refl)
either (f ∷ fs) x k =
    by_test (eqb f.number x)
    (λ e. inr (0, rw (record_from, e) (ap (λ (m : ℕ). Some m) (omega arith)), (omega arith, rw (known, e), rw (look, e), eqb-true f.number x e)))
    (λ e. ⊎_elim
    (λ a. inl (rw (known, e) a.0, rw (record_from, e) a.1))
    (λ a. inr (suc a.0, rw (record_from, e) (ap (λ (m : ℕ). Some m) (omega arith) ∙ a.1), (omega (arith, a.2.0), rw (known, e) a.2.1, rw (look, e) a.2.2, a.2.3)))
    (either fs x (suc k)))

module _ (fs : List Flow) (x : ℕ) where
  -- a record that is found is the list's flow of the number
  pub found_is : (r : ℕ) → Some r ≡ record_of fs x → Here fs x r
  found_is r e = ⊎_elim (λ a. absurd (none-some r (a.1 ∙ sym e))) (λ a. let s : r ≡ a.0 = omega (arith, same_Some r (0 + a.0) (e ∙ sym a.1)) in rw s a.2) (either fs x 0)

  -- where none is found the list has no such flow
  pub found-not : None ≡ record_of fs x → known fs x ≡ false
  found-not e = ⊎_elim (λ a. a.0) (λ a. absurd (none-some (0 + a.0) (e ∙ sym a.1))) (either fs x 0)
