use Rattle.std.proofs.Common.{◌≡◌, ◌+◌, ◌^◌, ◌-◌, ◌<◌, min, map, drop}
use Rattle.model.specs.SourceTrees.{source_expression_of, source_expressions}
use Rattle.shaped_trees.specs.Trees.{all_nodes}
use Rattle.shaped_trees.proofs.trees.+weight.Given as goal

abbrev pub invariant-weights-loop-part : goal.invariant-weights-loop-part
invariant-weights-loop-part l = record {
  sum : min (l.all + all_nodes (source_expressions (map source_expression_of (drop l.part-index l.parts)))) (2 ^ 32 - 1)
      ≡ min (all_nodes (source_expressions (map source_expression_of l.parts))) (2 ^ 32 - 1);
  within : l.all < 2 ^ 32;
}
