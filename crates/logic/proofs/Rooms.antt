-- A room written at a place: `sets room at ws` is the room with ws from the place on, and the rest as it was. Assumes nothing.
use mathlib.Core.Path.{◌≡◌, sym, ap, ◌∙◌}
use mathlib.Core.List.{List, [], ◌∷◌, ◌++◌, append_assoc}
use Prim.Native.Nat.{ℕ, suc, ◌+◌, ◌≤◌, ◌<◌}
use native.Mathlib.Numerals.{add-one}
use native.Mathlib.Omega.{arith}
use lib.ListN.{length, get_or, take, drop, set, drop_of_length-le}
use lib.Seq.{sets, sets-eq, drop-cons, set_comm}

-- two texts, one behind the other
pub sets_append : (room : List ℕ) (at : ℕ) (a b : List ℕ) → sets room at (a ++ b) ≡ sets (sets room at a) (at + length a) b
sets_append room at [] b = let e : at + 0 ≡ at = omega arith in rw e
sets_append room at (x ∷ a) b =
    let e : suc at + length a ≡ at + suc (length a) = omega arith in
    sets_append (set room at x) (suc at) a b ∙ ap (λ (p : ℕ). sets (sets (set room at x) (suc at) a) p b) e

-- at the front: the text, and the rest of the room
pub sets_front : (ws room : List ℕ) → length ws ≤ length room → sets room 0 ws ≡ ws ++ drop (length ws) room
sets_front ws room h =
    let e : 0 + length ws ≡ length ws = omega arith in
    sets-eq ws room 0 (omega arith) ∙ ap (λ (k : ℕ). ws ++ drop k room) e

-- a loop that writes a word from its front: as it starts, a turn, and its end
pub sets_start : (room w : List ℕ) (at : ℕ) → sets room (at + 0) w ≡ sets room at w
sets_start room w at = let e : at + 0 ≡ at = omega arith in rw e

pub sets_next : (room w : List ℕ) (at i : ℕ) → i < length w → sets room (at + i) (drop i w) ≡ sets (set room (at + i) (get_or w i 0)) (at + (i + 1)) (drop (i + 1) w)
sets_next room w at i h =
    let e : at + suc i ≡ suc (at + i) = omega arith in
    rw (add-one, e, drop-cons w i 0)

pub sets_done : (room w : List ℕ) (at i : ℕ) → length w ≤ i → sets room at (drop i w) ≡ room
sets_done room w at i h = rw (drop_of_length-le w h)

-- a turn of a loop that writes from the end
pub sets_last : (room : List ℕ) (at : ℕ) (a : List ℕ) (x : ℕ) → sets room at (a ++ (x ∷ [])) ≡ sets (set room (at + length a) x) at a
sets_last room at [] x = let e : at + 0 ≡ at = omega arith in rw e
sets_last room at (y ∷ a) x =
    let e : suc at + length a ≡ at + suc (length a) = omega arith in
    let other : at ≡ at + suc (length a) → ⊥ = λ q. omega arith in
    sets_last (set room at y) (suc at) a x
    ∙ rw e (ap (λ (l : List ℕ). sets l (suc at) a) (set_comm room at (at + suc (length a)) y x other))

-- what a callee writes between what stands before it and what stands behind
pub sets_between : (ws room : List ℕ) (at k : ℕ) → length ws ≡ k → at + k ≤ length room → take at room ++ (ws ++ drop (at + k) room) ≡ sets room at ws
sets_between ws room at k e h =
    sym (append_assoc (take at room) ws (drop (at + k) room))
    ∙ sym (sets-eq ws room at (omega arith) ∙ ap (λ (x : ℕ). (take at room ++ ws) ++ drop (at + x) room) e)
