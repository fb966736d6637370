-- `checking::pair::Pair::count_grants` meets its contract.
-- Assumes nothing.
use Rattle.std.proofs.Common.{sym, ◌∙◌, arith}
use Rattle.finding.proofs.Places.{found_is, found-not}
use Rattle.checking.specs.Parts.{flows_in, grants_in}
use Rattle.checking.proofs.Cells.{counts_none, counts_next, counts_skip, counts_end}
use Rattle.checking.proofs.pair.Pair.count_grants.Goals as goal
use Rattle.checking.proofs.pair.Pair.count_grants.Goals.{in-Some, in_default}

pub loop-i-init : goal.loop-i-init
loop-i-init c =
    let pair = c.args.self.now in
    counts_none (flows_in pair) (grants_in pair) pair.sound.accepted.few

pub overflow_add-cells : goal.overflow_add-cells
overflow_add-cells c =
    let found = found_is (flows_in c.args.self.now) c.grant_at.result.flow c.in-Some.k c.in-Some.ensures.value in
    let seen = c.loop-i.invariant c.in-Some.k found.0 in
    omega (arith, seen.0)

pub loop-i-preserved : goal.loop-i-preserved
loop-i-preserved c =
    let v = c.loop-i in
    let pair = c.args.self.now in
    let fs = flows_in pair in
    let gs = grants_in pair in
    let g = c.grant_at in
    let here = g.ensures.read (omega arith) in
    elim c.match-record_of.branch [
      | in-Some w ↦
          let found = found_is fs g.result.flow w.in-Some.k w.in-Some.ensures.value in
          rw w.cells-is
          (counts_next fs gs v.i v.cells v.invariant (omega arith) g.result here pair.sound.accepted.distinct w.in-Some.k found.0 (omega arith) found.3)
      | in_default w ↦
          let none = sym w.in_default.is ∙ c.record_of.ensures.value in
          rw w.cells-is
          (counts_skip fs gs v.i v.cells v.invariant (omega arith) g.result here (found-not fs g.result.flow none))
    ]

pub returns : goal.returns
returns c =
    let v = c.loop-i in
    let pair = c.args.self.now in
    counts_end (flows_in pair) (grants_in pair) v.i v.cells (omega arith) v.invariant
