-- What is read at a run's front is what the encoding there asks for, exactly where it is sound. Assumes nothing.
use Rattle.std.proofs.Common.{◌≡◌, true, false, List, [], ◌∷◌, ℕ, Some, None, refl, eq-eqb, ne_eqb, ◌∙◌, sym}
use Rattle.std.proofs.lemmas.Option.{none-some, cond_some}
use Rattle.logic.specs.Lists.{every}
use Rattle.logic.proofs.Tests.{by_test}
use Rattle.settings.specs.declared.Call.{Call}
use Rattle.settings.specs.Runs.{Item, holds, broken, items, whole}
use Rattle.settings.specs.Encodings.{upstream, good, all_four, call_of, call, sound}
use Rattle.converting.specs.Parts.{Front, heard, Sound, Unsound}

-- a broken item is no sound encoding
pub unsound_broken : (s : List ℕ) → items s ≡ broken ∷ [] → Unsound s
unfolding sound
unsound_broken s e = record { item = broken; rest = []; stands = e; unsound = refl }

-- settings that are heard are those of the encoding, and none of them is broken
heard_none : (is : List Item) → None ≡ heard is → every whole is ≡ false
unfolding heard
heard_none is e = by_test (every whole is) (λ t. absurd (none-some (call_of is) (rw t at e))) (λ t. t)

heard_some : (is : List Item) (c : Call) → Some c ≡ heard is → (every whole is ≡ true) × (call_of is ≡ c)
unfolding heard
heard_some is c e = cond_some (every whole is) (call_of is) c (sym e)

module _ (s : List ℕ) (t : ℕ) (v rest : List ℕ) (front : Front s t v rest) where
  -- nor is an item of another type
  pub unsound_other : (t ≡ upstream → ⊥) → Unsound s
  unfolding sound
  unsound_other n = record { item = holds t v; rest = items rest; stands = front.0; unsound = rw (ne_eqb t upstream n) }

  module _ (u : t ≡ upstream) where
    -- nor one that holds a broken setting
    pub unsound_setting : None ≡ heard (items v) → Unsound s
    unfolding sound
    unsound_setting n =
        record { item = holds t v; rest = items rest; stands = front.0; unsound = rw (eq-eqb t upstream u, heard_none (items v) n) }

    module _ (c : Call) (h : Some c ≡ heard (items v)) where
      is_sound : sound (holds t v) ≡ all_four good c
      unfolding sound call
      is_sound = let w = heard_some (items v) c h in rw (eq-eqb t upstream u, w.0, w.1)

      -- nor one of whose four is bad
      pub unsound_bad : all_four good c ≡ false → Unsound s
      unsound_bad g = record { item = holds t v; rest = items rest; stands = front.0; unsound = is_sound ∙ g }

      pub sound_front : all_four good c ≡ true → Sound s c rest
      unfolding call
      sound_front g =
          record {
            item = holds t v;
            stands = front.0;
            shorter = front.1;
            sound = is_sound ∙ g;
            asks = sym (heard_some (items v) c h).1;
          }
