-- What the numbers say of the layout: the one tie between the code's state and the rule. Assumes nothing.
use Rattle.std.specs.Prelude.{◌≡◌, true, List, [], ◌∷◌, ◌++◌, ℕ, ◌*◌, ◌/◌, ◌≤◌, ◌<◌, length, get_or, take, Result, Ok, Err}
use Rattle.std.specs.Int.{◌∣◌}
use Rattle.flows.specs.declared.flow.Flow.{Flow}
use Rattle.placing.specs.Rule.{Outcome, done, refused, Settled, Frame, lawful, settle, group, rep, opened}
use Rattle.planner.specs.Cells.{loads, limits, standing, Small}

-- after the groups of the intervals is: the frames' contents cs and limits ls, the flows' frames ks and bases bs are those of the layout hs
pub record Agrees (φ : ℕ) (fs : List Flow) (is : List ℕ) (hs : List (List Settled)) (cs ls ks bs : List ℕ) : Type 0 where
  pub content : cs ≡ loads hs
  pub limit : ls ≡ limits hs
  pub law : lawful φ 0 (loads hs) hs ≡ true
  pub stand : (m : ℕ) → m < length hs → get_or hs m [] ≡ standing φ fs ks bs is m

-- each group came before one of interval i, and its windows fill w frames
abbrev pub Before : ℕ → ℕ → ℕ → List ℕ → Type 0
Before φ i w [] = Unit
Before φ i w (n ∷ is) = (n < i) × (n / φ ∣ w) × Before φ i w is

-- the window of the group of interval i is there, its first w frames as the groups before left them
pub record Opened (φ i w : ℕ) (fs : List Flow) (is : List ℕ) (hs : List (List Settled)) (cs ls ks bs : List ℕ) : Type 0 where
  pub agrees : Agrees φ fs is hs (take w cs) (take w ls) ks bs
  pub wide : length hs ≡ w
  pub some : 0 < w
  pub times : ℕ
  pub whole : length cs ≡ times * w
  pub positive : 0 < times
  pub before : Before φ i w is
  pub frames : length cs ≡ i / φ
  pub slots : length cs * φ ≡ i
  pub most : length cs ≤ 256
  pub same : length ls ≡ length cs
  pub low : i ≤ 4096
  pub small : Small 4096 fs

-- the group of interval i has ended as the rule says
abbrev pub Closed : ℕ → ℕ → List Flow → List ℕ → Outcome (List Frame) → Result Unit ℕ → List ℕ → List ℕ → List ℕ → List ℕ → Type 0
Closed φ i fs is (refused p) r cs ls ks bs = r ≡ Err p
Closed φ i fs is (done L) r cs ls ks bs = (r ≡ Ok tt) × Agrees φ fs (is ++ (i ∷ [])) (settle φ 0 L) cs ls ks bs × (length L ≡ i / φ)

-- some groups were placed before
abbrev pub Ready : ℕ → ℕ → ℕ → List Flow → List ℕ → List ℕ → List ℕ → List ℕ → Type 0
Ready φ i w fs cs ls ks bs = (is : List ℕ) × (hs : List (List Settled)) × Opened φ i w fs is hs cs ls ks bs

-- whichever they were, the group has ended as the rule says
abbrev pub Added : ℕ → ℕ → ℕ → List Flow → List ℕ → List ℕ → List ℕ → List ℕ → Result Unit ℕ → List ℕ → List ℕ → List ℕ → List ℕ → Type 0
Added φ i w fs cs ls ks bs r ds ms ns es =
    (is : List ℕ) (hs : List (List Settled)) (o : Opened φ i w fs is hs cs ls ks bs) → Closed φ i fs is (group φ i 1 (opened (rep o.times hs)) fs) r ds ms ns es
