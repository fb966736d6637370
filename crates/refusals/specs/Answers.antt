-- Document 01: "A refusal writes nothing. Success writes exactly the needed bytes at the front of the room; the rest stays."
-- Test 9 and the room afterwards, for every operation that makes bytes where its other tests pass. Assumes nothing.
use Rattle.std.specs.Prelude.{ℕ, cond, List, ◌++◌, ltb, length, drop, Ok, Err}
use Rattle.refusals.specs.declared.Refusal.TheVariants.{Room}
use Rattle.refusals.specs.Results.{Checked, Written}

-- the answer, for a room of n bytes
unfoldable pub answer : Checked → List ℕ → ℕ → Written
answer (Err r) bs n = Err r
answer (Ok tt) bs n = cond (ltb n (length bs)) (Err Room) (Ok (length bs))

-- the room afterwards
unfoldable pub written : Checked → List ℕ → List ℕ → List ℕ
written (Err r) bs room = room
written (Ok tt) bs room = cond (ltb (length room) (length bs)) room (bs ++ drop (length bs) room)
