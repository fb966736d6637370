-- What settings ask for, setting by setting. Assumes nothing.
use Rattle.std.proofs.Common.{◌≡◌, cond, List, [], ◌∷◌, ℕ, eqb, length, Option, Some, None, refl, sym, true, eqb-true}
use Rattle.std.proofs.lemmas.List.{nil_from_length}
use Rattle.logic.specs.Lists.{every}
use Rattle.logic.proofs.Tests.{by_test}
use Rattle.settings.specs.declared.Said.{Said}
use Rattle.settings.specs.declared.Said.TheVariants.{Missing, Is, Bad}
use Rattle.settings.specs.declared.Call.{Call}
use Rattle.settings.specs.Runs.{Item, holds, broken, items, whole}
use Rattle.settings.proofs.Runs.{items-none}
use Rattle.settings.specs.Encodings.{grant_size, nominal_interval, tolerated_jitter, grants_per_interval, values_of, said, call_of}
use Rattle.converting.specs.Parts.{also, one, with_item, heard}

-- ---- one of the four

pub also_missing : (x : Said) → also x Missing ≡ x
also_missing Missing = refl
also_missing (Is n) = refl
also_missing Bad = refl

also_assoc : (x y z : Said) → also (also x y) z ≡ also x (also y z)
also_assoc Missing y z = refl
also_assoc (Is n) Missing z = refl
also_assoc (Is n) (Is m) Missing = refl
also_assoc (Is n) (Is m) (Is k) = refl
also_assoc (Is n) (Is m) Bad = refl
also_assoc (Is n) Bad z = refl
also_assoc Bad y z = refl

-- a value that is there is repeated by any other
twice : (n : ℕ) (v w : List ℕ) (vs : List (List ℕ)) → Bad ≡ also (said n (v ∷ [])) (said n (w ∷ vs))
twice n v w [] = by_test (eqb (length v) n) (λ e. by_test (eqb (length w) n) (λ d. rw (e, d)) (λ d. rw (e, d))) (λ e. rw e)
twice n v w (x ∷ vs) = by_test (eqb (length v) n) (λ e. rw e) (λ e. rw e)

said_more : (n : ℕ) (v : List ℕ) (vs : List (List ℕ)) → said n (v ∷ vs) ≡ also (said n (v ∷ [])) (said n vs)
said_more n v [] = sym (also_missing (said n (v ∷ [])))
said_more n v (w ∷ vs) = twice n v w vs

-- one setting more in front
values-more : (t n u : ℕ) (v : List ℕ) (is : List Item)
    → said n (values_of t (holds u v ∷ is)) ≡ also (one (eqb u t) n v) (said n (values_of t is))
unfolding values_of
values-more t n u v is = by_test (eqb u t) (λ e. rw e (said_more n v (values_of t is))) (λ e. rw e)

-- ---- all four

-- what settings so far ask for, and then others; nothing where one of these is broken
abbrev pub onward : Call → List Item → Option Call
onward c is =
    cond (every whole is)
    (Some (record {
      size = also c.size (call_of is).size;
      interval = also c.interval (call_of is).interval;
      jitter = also c.jitter (call_of is).jitter;
      grants = also c.grants (call_of is).grants;
    }))
    None

-- nothing is read yet
pub onward_start : (is : List Item) → onward (record { size = Missing; interval = Missing; jitter = Missing; grants = Missing }) is ≡ heard is
unfolding heard
onward_start is = refl

module _ (c : Call) (s : List ℕ) where
  -- nothing is left
  pub onward_end : eqb (length s) 0 ≡ true → onward c (items s) ≡ Some c
  unfolding every call_of values_of
  onward_end e =
      rw (nil_from_length s (eqb-true (length s) 0 e), items-none, also_missing c.size, also_missing c.interval, also_missing c.jitter, also_missing c.grants)

  -- a broken setting
  pub onward_broken : items s ≡ broken ∷ [] → onward c (items s) ≡ None
  unfolding every
  onward_broken e = rw e

  -- a setting of type u
  pub onward_next : (u : ℕ) (v : List ℕ) (is : List Item) → items s ≡ holds u v ∷ is → onward c (items s) ≡ onward (with_item c u v) is
  unfolding every call_of
  onward_next u v is e =
      rw (
        e,
        values-more grant_size 2 u v is,
        values-more nominal_interval 4 u v is,
        values-more tolerated_jitter 4 u v is,
        values-more grants_per_interval 1 u v is,
        also_assoc c.size (one (eqb u grant_size) 2 v) (said 2 (values_of grant_size is)),
        also_assoc c.interval (one (eqb u nominal_interval) 4 v) (said 4 (values_of nominal_interval is)),
        also_assoc c.jitter (one (eqb u tolerated_jitter) 4 v) (said 4 (values_of tolerated_jitter is)),
        also_assoc c.grants (one (eqb u grants_per_interval) 1 v) (said 1 (values_of grants_per_interval is)),
      )
