use Rattle.std.proofs.Common.{◌≡◌, ◌++◌, ℕ, true, false, drop}
use Rattle.model.specs.Turns.{contains}
use Rattle.design.specs.DesignTrees.{statements_of}
use Rattle.phases.specs.Combinational.{settled}
use Rattle.combinational.proofs.block.settles_outputs.Given as goal

-- those that aren't left are settled, and no inputs
abbrev pub invariant-loop-output : goal.invariant-loop-output
invariant-loop-output l =
    record {
      sure : (r : ℕ) → contains l.outputs r ≡ true → contains (drop l.output-index l.outputs) r ≡ false → contains (settled (statements_of l.body) ++ settled (statements_of l.others)) r ≡ true;
      apart : (r : ℕ) → contains l.outputs r ≡ true → contains (drop l.output-index l.outputs) r ≡ false → contains l.inputs r ≡ false;
    }
