use Rattle.std.proofs.Common.{◌≡◌, ◌<◌, ◌++◌, ℕ, true}
use Rattle.model.specs.Turns.{contains}
use Rattle.design.specs.DesignTrees.{statements_of}
use Rattle.phases.specs.Combinational.{written}
use Rattle.combinational.proofs.block.outputs_of.Given as goal

-- those so far that it may write
abbrev pub invariant-loop-register : goal.invariant-loop-register
invariant-loop-register l =
    record {
      only : (r : ℕ) → contains l.outputs.items r ≡ true → contains (written (statements_of l.body) ++ written (statements_of l.others)) r ≡ true;
      all : (r : ℕ) → r < l.register → contains (written (statements_of l.body) ++ written (statements_of l.others)) r ≡ true → contains l.outputs.items r ≡ true;
    }
