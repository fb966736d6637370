-- Each flow has one of the frames of its window, and keeps it. Assumes nothing.
use Rattle.std.proofs.Common.{Result, ◌≡◌, refl, ap, ◌∙◌, List, [], ◌∷◌, ◌++◌, ℕ, zero, suc, ◌/◌, ◌≤◌, arith, get_or, set, get_or-set_other}
use Rattle.logic.specs.Lists.{All}
use Rattle.logic.proofs.Tests.{by_eq}
use Rattle.lists.specs.Lists.{count, flow_at, flows_from, flows_of}
use Rattle.lists.specs.Facts.{occupies}
use Rattle.placing.proofs.Groups.{by_found}
use Rattle.planner.specs.Cells.{first, Laid, laid_of, group_cells}
use Rattle.planner.specs.State.{Before}
use Rattle.planner.proofs.Grouping.{Inside, step_other, step-at, step_nowhere, cells_on, cells_stop}
use Rattle.planner.specs.Finished.{Housed, Taken}
use Rattle.planner.proofs.Turns.{inside_at}

-- placing a group leaves the frame of a flow of another interval
cells_apart : (l : List ℕ) (φ n i : ℕ) → ((flow_at l i).interval ≡ n → ⊥) → (j c : ℕ) (cs ls ks : List ℕ)
    → get_or (group_cells φ n j cs ls ks (flows_from l j c)).frames i 0 ≡ get_or ks i 0
unfolding group_cells flows_from
cells_apart l φ n i a j zero cs ls ks = refl
cells_apart l φ n i a j (suc c) cs ls ks =
    let f = flow_at l j in
    let fs = flows_from l (suc j) c in
    by_eq f.interval n
    (λ e.
    by_found (first φ (occupies f) 0 0 cs ls)
    (λ k b.
    rw (cells_on φ n j cs ls ks f fs _ _ (step-at φ n j cs ls ks f k e b))
    (cells_apart l φ n i a (suc j) c _ ls (set ks j k) ∙ get_or-set_other ks j i k 0 (λ z. a (ap (λ (x : ℕ). (flow_at l x).interval) z ∙ e))))
    (λ b. rw (cells_stop φ n j cs ls ks f fs _ _ (step_nowhere φ n j cs ls ks f e b))))
    (λ e. rw (cells_on φ n j cs ls ks f fs _ _ (step_other φ n j cs ls ks f e)) (cells_apart l φ n i a (suc j) c cs ls ks))

pub taken : (l : List ℕ) (φ n w : ℕ) (q : Result Unit ℕ) (cs ls ks ds ns : List ℕ) → laid_of q ds ns ≡ group_cells φ n 0 cs ls ks (flows_of l) → Inside n w 0 (flows_of l) ns
    → Taken l n w ks ns
unfolding flows_of
taken l φ n w q cs ls ks ds ns e h =
    record {
      own = inside_at l n w ns h;
      apart = λ i u a. ap (λ (x : Laid). get_or x.frames i 0) e ∙ cells_apart l φ n i a 0 (count l) cs ls ks;
    }

-- the groups before and the one that was placed behind them
pub housed_on : (φ w i : ℕ) (l ks ns is : List ℕ) → Before φ i w is → All (Housed φ l ks) is → i / φ ≤ 256 → Taken l i (i / φ) ks ns → All (Housed φ l ns) (is ++ (i ∷ []))
housed_on φ w i l ks ns [] b a h T = ((h, T.own), tt)
housed_on φ w i l ks ns (n ∷ is) b a h T = (
  (a.0.0, λ j u e. rw (T.apart j u (λ z. omega (arith, b.0))) (a.0.1 j u e)),
  housed_on φ w i l ks ns is b.2 a.1 h T,
)
