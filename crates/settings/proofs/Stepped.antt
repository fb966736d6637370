-- Other settings are stepped over: one of another type changes nothing of what an encoding asks for. Assumes nothing.
use Rattle.std.proofs.Common.{◌≡◌, refl, sym, ap, ◌∙◌, true, List, [], ◌∷◌, ◌++◌, ℕ, ne_eqb}
use Rattle.logic.specs.Lists.{every}
use Rattle.logic.proofs.Members.{every-all, all-every}
use Rattle.logic.proofs.Appends.{all_append}
use Rattle.settings.specs.Runs.{Item, holds, broken, whole, encoded}
use Rattle.settings.specs.Encodings.{upstream, grant_size, nominal_interval, tolerated_jitter, grants_per_interval, values_of, call_of, call}
use Rattle.settings.proofs.Form.{items-encoded}

-- the type of none of the four
abbrev pub Other : ℕ → Type 0
Other u = (u ≡ grant_size → ⊥) × (u ≡ nominal_interval → ⊥) × (u ≡ tolerated_jitter → ⊥) × (u ≡ grants_per_interval → ⊥)

-- an encoding of settings asks for what they do
encoding-call : (is : List Item) → every whole is ≡ true → call (holds upstream (encoded is)) ≡ call_of is
unfolding call
encoding-call is h = ap call_of (items-encoded is h)

module _ (u : ℕ) (v : List ℕ) (js : List Item) where
  -- a setting of another type is none of the values of a type
  values_without : (t : ℕ) → (u ≡ t → ⊥) → (is : List Item) → values_of t (is ++ (holds u v ∷ js)) ≡ values_of t (is ++ js)
  unfolding values_of
  values_without t n [] = rw (ne_eqb u t n)
  values_without t n (holds type value ∷ is) = rw (values_without t n is)
  values_without t n (broken ∷ is) = values_without t n is

  module _ (n : Other u) (is : List Item) where
    -- settings ask for the same without it
    pub stepped_over : call_of (is ++ (holds u v ∷ js)) ≡ call_of (is ++ js)
    unfolding call_of
    stepped_over =
        rw (values_without grant_size n.0 is, values_without nominal_interval n.1 is, values_without tolerated_jitter n.2 is, values_without grants_per_interval n.3 is)

    -- and so does an encoding
    pub stepped_over-bytes : every whole is ≡ true → every whole js ≡ true
        → call (holds upstream (encoded (is ++ (holds u v ∷ js)))) ≡ call (holds upstream (encoded (is ++ js)))
    stepped_over-bytes h k =
        let a = every-all whole is h in
        let b = every-all whole js k in
        encoding-call (is ++ (holds u v ∷ js)) (all-every whole _ (all_append (λ i. whole i ≡ true) is (holds u v ∷ js) a (refl, b)))
        ∙ stepped_over
        ∙ sym (encoding-call (is ++ js) (all-every whole _ (all_append (λ i. whole i ≡ true) is js a b)))
