use Rattle.std.proofs.Common.{◌≡◌, ℕ, List, drop}
use Rattle.std.specs.Prelude.{◌||◌}
use Rattle.model.specs.Turns.{contains}
use Rattle.design.specs.DesignTrees.{statements_of}
use Rattle.phases.specs.Combinational.{reads, written, settled}
use Rattle.combinational.proofs.body.+flow.Given as goal

-- what the statements behind this place do, and what stands behind them
abbrev pub invariant-flow_before-loop-at : goal.invariant-flow_before-loop-at
invariant-flow_before-loop-at l =
    record {
      read : (registers : List ℕ) → contains registers l.register ≡ l.fn.behind.may_read → contains (reads (statements_of (drop l.at l.statements)) registers) l.register ≡ l.flow.may_read;
      written : (contains (written (statements_of (drop l.at l.statements))) l.register || l.fn.behind.may_write) ≡ l.flow.may_write;
      settled : (contains (settled (statements_of (drop l.at l.statements))) l.register || l.fn.behind.must_write) ≡ l.flow.must_write;
    }
