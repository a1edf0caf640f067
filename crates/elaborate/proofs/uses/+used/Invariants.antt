use Rattle.std.proofs.Common.{◌≡◌, map, drop}
use Rattle.model.specs.SourceTrees.{source_expression_of, source_expressions}
use Rattle.elaborate.specs.FirstFindings.{all_used}
use Rattle.elaborate.proofs.uses.+used.Given as goal

abbrev pub invariant-expressions-loop-part : goal.invariant-expressions-loop-part
invariant-expressions-loop-part l =
    all_used l.names (source_expressions (map source_expression_of l.parts)) ≡ all_used l.names (source_expressions (map source_expression_of (drop l.part-index l.parts)))
