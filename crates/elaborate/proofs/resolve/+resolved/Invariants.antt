use Rattle.std.proofs.Common.{◌≡◌, ◌++◌, map, drop}
use Rattle.design.specs.DesignTrees as tree
use Rattle.model.specs.Elaboration.{resolved}
use Rattle.model.specs.SourceTrees.{source_expression_of, source_expressions}
use Rattle.elaborate.specs.Small.{AreSmall}
use Rattle.elaborate.proofs.resolve.+resolved.Given as goal

abbrev pub invariant-expressions-loop-part : goal.invariant-expressions-loop-part
invariant-expressions-loop-part l = record {
  made : map tree.expression_of l.made.items ++ map (resolved l.names) (map source_expression_of (drop l.part-index l.parts)) ≡ map (resolved l.names) (map source_expression_of l.parts);
  small : AreSmall (source_expressions (map source_expression_of (drop l.part-index l.parts)));
}
