use Rattle.std.proofs.Common.{drop}
use Rattle.logic4.specs.Vector.{Vector}
use Rattle.shaped_trees.specs.Constants.{HasDigits, AreConstantTrees}
use Rattle.shaped_trees.proofs.Evaluated.{trees}
use Rattle.shaped_trees.proofs.evaluation.+evaluate.Given as goal

abbrev pub invariant-join-loop-part : goal.invariant-join-loop-part
invariant-join-loop-part l = record {
  digits : (v : Vector) → HasDigits l.digits (trees (drop l.part-index l.parts)) v → HasDigits l.initial.digits (trees l.parts) v;
  closed : AreConstantTrees (trees (drop l.part-index l.parts)) → AreConstantTrees (trees l.parts);
}
