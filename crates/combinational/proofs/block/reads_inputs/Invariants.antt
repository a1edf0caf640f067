use Rattle.std.proofs.Common.{◌≡◌, ◌<◌, ℕ, true, []}
use Rattle.model.specs.Turns.{contains}
use Rattle.design.specs.DesignTrees.{statements_of}
use Rattle.phases.specs.Combinational.{reads}
use Rattle.combinational.proofs.block.reads_inputs.Given as goal

-- those so far that it may read are inputs
abbrev pub invariant-loop-register : goal.invariant-loop-register
invariant-loop-register l = (r : ℕ) → r < l.register → contains (reads (statements_of l.body) (reads (statements_of l.others) [])) r ≡ true → contains l.inputs r ≡ true
