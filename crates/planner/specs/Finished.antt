-- All groups placed. Assumes nothing.
use Rattle.std.specs.Prelude.{◌≡◌, List, ℕ, ◌*◌, ◌/◌, ◌≤◌, ◌<◌, length, get_or, take, Result, Ok, Err}
use Rattle.flows.specs.declared.flow.Flow.{Flow}
use Rattle.lists.specs.Lists.{count, flow_at}
use Rattle.lists.specs.Facts.{cycle}
use Rattle.placing.specs.Rule.{Outcome, done, refused, Settled, intervals}
use Rattle.planner.specs.State.{Agrees}

-- the numbers are those of the list's layout, which fills the cycle; or the answer names the flow that has no lawful frame
abbrev pub Finished : ℕ → List Flow → Outcome (List (List Settled)) → Result Unit ℕ → List ℕ → List ℕ → List ℕ → List ℕ → Type 0
Finished φ fs (refused p) r cs ls ks bs = r ≡ Err p
Finished φ fs (done hs) r cs ls ks bs =
    (r ≡ Ok tt) × Agrees φ fs (intervals fs) hs (take (length hs) cs) (take (length hs) ls) ks bs × (length hs * φ ≡ cycle fs) × (length hs ≤ 256)

-- the flows of interval n have frames of their window, of at most 256 frames
abbrev pub Housed : ℕ → List ℕ → List ℕ → ℕ → Type 0
Housed φ l ks n = (n / φ ≤ 256) × ((i : ℕ) → i < count l → (flow_at l i).interval ≡ n → get_or ks i 0 < n / φ)

-- placing the group of interval n gave its flows frames below w, and left those of the others
pub record Taken (l : List ℕ) (n w : ℕ) (ks ns : List ℕ) : Type 0 where
  pub own : (i : ℕ) → i < count l → (flow_at l i).interval ≡ n → get_or ns i 0 < w
  pub apart : (i : ℕ) → i < count l → ((flow_at l i).interval ≡ n → ⊥) → get_or ns i 0 ≡ get_or ks i 0
