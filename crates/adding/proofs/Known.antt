-- What is known of a list, a table and a new flow that pass their tests. Assumes nothing.
use Rattle.std.proofs.Common.{arith, ◌+◌, ◌≡◌, true, List, [], ◌∷◌, ◌++◌, ℕ, ◌*◌, ◌≤◌, ◌<◌}
use Rattle.logic.specs.Lists.{All}
use Rattle.logic.proofs.Members.{mem_all, get_d_all}
use Rattle.logic.proofs.Appends.{mem_behind}
use Rattle.flows.specs.declared.flow.Flow.{Flow}
use Rattle.flows.specs.Flows.{keeps}
use Rattle.flows.proofs.Flows.{Keeps, rule_kept}
use Rattle.lists.specs.Lists.{flows_of}
use Rattle.lists.specs.Facts.{occupies, cycle, frame, grants_of}
use Rattle.lists.proofs.Accepted.{accepted}
use Rattle.lists.proofs.Cycle.{kept, occupies_pos, cycle-fits}
use Rattle.tables.specs.Tables.{cycle_of, frame_of, grants_of as grants_in}
use Rattle.tables.proofs.Forms.{Formed, form_passed}
use Rattle.tables.proofs.Meaning.{Fits}
use Rattle.law.specs.Check.{slots}
use Rattle.law.specs.Law.{blank, Rising}
use Rattle.law.proofs.Listed.{slots_pos}
use Rattle.law.proofs.Chains.{Chain, inside_chain, chain_at, chain_rising}
use Rattle.law.proofs.Demand.{check_parts, check_is_lawful}
use Rattle.law.proofs.Packed.{held}
use Rattle.offsets.proofs.Fitting.{fills}
use Rattle.offsets.proofs.Standing.{stands}
use Rattle.adding.specs.Parts.{Joins}

pub record Known (l t : List ℕ) (f : Flow) : Type 0 where
  pub rule : Keeps f
  pub high : f.interval ≤ cycle (flows_of l)
  pub cycle_is : cycle_of t ≡ cycle (flows_of l)
  pub frame_is : frame_of t ≡ frame (flows_of l)
  pub cycle_le : cycle (flows_of l) ≤ 4096
  pub fills : grants_of (cycle (flows_of l)) f * f.interval ≡ cycle (flows_of l)
  pub chain : Chain (flows_of l) 0 (cycle (flows_of l)) (grants_in t)
  pub early : All (λ g. g.start + slots (flows_of l) g ≤ 4096) (grants_in t)
  pub sized : All (λ g. 0 < slots (flows_of l) g) (grants_in t)
  pub rising : Rising (grants_in t)
  pub form : Formed t
  pub fit : All Fits (grants_in t)

pub known : (l t : List ℕ) (f : Flow) → Joins l t f → Known l t f
known l t f j =
    let fs = flows_of l in
    let gs = grants_in t in
    let w = (check_is_lawful l t).0 j.checked in
    let N = stands l t f j.checked j.new in
    let ok = accepted l w.list in
    let chain = inside_chain fs gs N.reads.clear N.reads.inside in
    let sized : All (λ r. 0 < slots fs r) gs = slots_pos fs gs (mem_all (λ f. 0 < occupies f) fs (occupies_pos fs ok)) N.reads.listed in
    record {
      rule = kept (fs ++ (f ∷ [])) N.ok f (mem_behind fs f []);
      high = N.high;
      cycle_is = w.same_cycle;
      frame_is = w.same_frame;
      cycle_le = cycle-fits fs ok;
      fills = fills fs f gs N;
      chain = chain;
      early = get_d_all (λ g. g.start + slots fs g ≤ 4096) blank gs (λ k h. omega (arith, chain_at fs 0 (cycle fs) gs k chain h, cycle-fits fs ok));
      sized = sized;
      rising = chain_rising fs 0 (cycle fs) gs sized chain;
      form = (form_passed t w.form).0;
      fit = (held fs ok gs ((check_parts l t).0 j.checked).rules).fits;
    }

-- a flow that joins keeps its rule
pub joins_keeps : (l t : List ℕ) (f : Flow) → Joins l t f → keeps f ≡ true
joins_keeps l t f J = rule_kept f (known l t f J).rule
