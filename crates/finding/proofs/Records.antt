-- The notes of an index: noting the records from the last to the first, and searching along them. Assumes nothing.
use Rattle.std.proofs.Common.{◌≡◌, ltb, sym, ap, ◌∙◌, List, ℕ, ◌+◌, ◌%◌, ◌≤◌, ◌<◌, length, get_or, set, replicate, Option, Some, None, unwrap_or, arith, mod-lt, lit<, get_or-set_same, get_or-set_other}
use lib.ListN.{get_or-replicate}
use Rattle.std.proofs.lemmas.Bool.{ltb-true, lt-ltb, le-ltb}
use Rattle.std.proofs.lemmas.Option.{cond_some, none-some}
use Rattle.logic.proofs.Tests.{by_lt, by_order, by_eq}
use Rattle.flows.specs.declared.flow.Flow.{Flow}
use Rattle.flows.specs.Flows.{no_flow}
use Rattle.finding.specs.declared.Index.{Index}
use Rattle.finding.specs.Parts.{record_of, record_in, behind, bits_of, first_of, next_of, Noted, Indexed}
use Rattle.finding.proofs.Places.{record_at, record_none}

-- ---- noting

-- nothing is noted yet, of the records behind the last
pub noted-none : (fs : List Flow) (i : ℕ) (nexts : List ℕ) → length fs ≤ 128 → i ≡ length fs → Noted fs i (replicate 256 128) nexts
noted-none fs i nexts few e =
    record {
      few = few;
      first_skips = λ x j h l. absurd (omega arith);
      first_has = λ x h. absurd (omega (arith, get_or-replicate {A = ℕ} 256 (x % 256) 128 0 (mod-lt x (lit< tt))));
      next_skips = λ k j h g l. absurd (omega arith);
      next_has = λ k h l. absurd (omega arith);
    }

-- record k is noted, before those that are noted already
module _ (fs : List Flow) (firsts nexts : List ℕ) (i k : ℕ) (f : Flow) (a : Noted fs i firsts nexts) (wide : length firsts ≡ 256) (long : length nexts ≡ 128)
    (s : k + 1 ≡ i) (h : k < length fs) (e : f ≡ get_or fs k no_flow) where
  abbrev firsts' : List ℕ
  firsts' = set firsts (f.number % 256) k

  abbrev nexts' : List ℕ
  nexts' = set nexts k (first_of firsts f.number)

  own : (x : ℕ) → x % 256 ≡ f.number % 256 → first_of firsts' x ≡ k
  own x q = rw q (get_or-set_same firsts (f.number % 256) k 0 (rw wide (mod-lt f.number (lit< tt))))

  other : (x : ℕ) → (x % 256 ≡ f.number % 256 → ⊥) → first_of firsts' x ≡ first_of firsts x
  other x n = get_or-set_other firsts (f.number % 256) (x % 256) k 0 n

  here : next_of nexts' k ≡ first_of firsts f.number
  here = get_or-set_same nexts k (first_of firsts f.number) 0 (omega (arith, a.few))

  there : (j : ℕ) → i ≤ j → next_of nexts' j ≡ next_of nexts j
  there j l = get_or-set_other nexts k j (first_of firsts f.number) 0 (λ q. omega arith)

  bits : bits_of fs k ≡ f.number % 256
  bits = ap (λ (g : Flow). g.number % 256) (sym e)

  pub noted-next : Noted fs k firsts' nexts'
  noted-next =
      record {
        few = a.few;
        first_skips = λ x j g l u v.
            by_eq (x % 256) (f.number % 256)
            (λ q. omega (arith, own x q))
            (λ n. by_eq j k
            (λ w. n (sym v ∙ ap (bits_of fs) w ∙ bits))
            (λ w. a.first_skips x j (omega arith) l (omega (arith, other x n)) v));
        first_has = λ x.
            by_eq (x % 256) (f.number % 256)
            (λ q u. rw (own x q) (omega arith, h, bits ∙ sym q))
            (λ n u. let o = a.first_has x (omega (arith, other x n)) in rw (other x n) (omega (arith, o.0), o.1, o.2));
        next_skips = λ m j g l p u v.
            by_eq m k
            (λ w. a.first_skips f.number j (omega arith) p (omega (arith, here, ap (next_of nexts') w)) (v ∙ ap (bits_of fs) w ∙ bits))
            (λ w. a.next_skips m j (omega arith) l p (omega (arith, there m (omega arith))) v);
        next_has = λ m g l u.
            by_eq m k
            (λ w.
            let o = a.first_has f.number (omega (arith, here, ap (next_of nexts') w)) in
            let q : next_of nexts' m ≡ first_of firsts f.number = ap (next_of nexts') w ∙ here in
            rw q (omega (arith, o.0), o.1, o.2 ∙ sym bits ∙ ap (bits_of fs) (sym w)))
            (λ w. rw (there m (omega arith)) (a.next_has m (omega arith) l (omega (arith, there m (omega arith)))));
      }

-- ---- searching

-- a record that a note says is that of the note, below 128
pub noted_is : (note k : ℕ) → record_in note ≡ Some k → (note ≡ k) × (k < 128)
noted_is note k e = let p = cond_some (ltb note 128) note k e in let l = ltb-true note 128 p.0 in (p.1, omega arith)

-- a record that is noted behind k is further on, and below 128
pub behind_is : (nexts : List ℕ) (k m : ℕ) → behind nexts k ≡ Some m → (k < m) × (m < 128)
behind_is nexts k m e =
    by_lt k (next_of nexts k)
    (λ l. let n = noted_is (next_of nexts k) m (rw (lt-ltb k (next_of nexts k) l) at e) in (omega arith, n.1))
    (λ l. absurd (none-some m (rw (le-ltb k (next_of nexts k) l) at e)))

-- where a search goes on: at a record, or at 128 where there is none
abbrev pub place : Option ℕ → ℕ
place next = unwrap_or next 128

-- what lies before that place lies before the note
before : (note j : ℕ) → j < 128 → j < place (record_in note) → j < note
before note j few h = by_lt note 128 (λ l. rw (lt-ltb note 128 l) at h) (λ l. omega arith)

-- no record before the next one has the number x, and the next one is a record with the same last eight bits
pub record Sought (fs : List Flow) (x : ℕ) (next : Option ℕ) : Type 0 where
  pub passed : (j : ℕ) → j < length fs → j < place next → (get_or fs j no_flow).number ≡ x → ⊥
  pub inside : (k : ℕ) → next ≡ Some k → (k < length fs) × (bits_of fs k ≡ x % 256)

module _ (fs : List Flow) (index : Index) (a : Indexed fs index) (x : ℕ) where
  -- the search begins at the record that is noted first
  pub sought_first : Sought fs x (record_in (first_of index.firsts x))
  sought_first =
      record {
        passed = λ j l h e. let few = a.few in a.first_skips x j (omega arith) l (before (first_of index.firsts x) j (omega arith) h) (ap (λ (n : ℕ). n % 256) e);
        inside = λ k s. let n = noted_is (first_of index.firsts x) k s in let o = a.first_has x (omega (arith, n.0, n.1)) in rw (← n.0) (o.1, o.2);
      }

  module _ (next : Option ℕ) (b : Sought fs x next) where
    -- no record is left
    pub sought_none : next ≡ None → None ≡ record_of fs x
    sought_none n = let few = a.few in record_none fs x (λ j l. b.passed j l (rw n (omega arith)))

    module _ (k : ℕ) (s : next ≡ Some k) where
      -- record k has the number
      pub sought_here : (get_or fs k no_flow).number ≡ x → Some k ≡ record_of fs x
      sought_here e = record_at fs x k (b.inside k s).0 e (λ j u. let few = (b.inside k s).0 in b.passed j (omega arith) (rw s u))

      -- record k has another number
      pub sought_next : ((get_or fs k no_flow).number ≡ x → ⊥) → Sought fs x (behind index.nexts k)
      sought_next o =
          let few = a.few in
          let here = b.inside k s in
          let note : ℕ = next_of index.nexts k in
          let rises : k < note = by_lt note 128 (λ u. (a.next_has k (omega arith) here.0 u).0) (λ u. omega arith) in
          rw (lt-ltb k note rises) (record {
            passed = λ j m u e.
                by_order j k
                (λ v. b.passed j m (rw s v) e)
                (λ v. o (ap (λ (i : ℕ). (get_or fs i no_flow).number) (sym v) ∙ e))
                (λ v. a.next_skips k j (omega arith) v m (before note j (omega arith) u) (ap (λ (i : ℕ). i % 256) e ∙ sym here.1));
            inside = λ m e. let n = noted_is note m e in let o = a.next_has k (omega arith) here.0 (omega arith) in rw (← n.0) (o.1, o.2 ∙ here.1);
          })
