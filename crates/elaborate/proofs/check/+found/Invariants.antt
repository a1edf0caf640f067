use Rattle.std.proofs.Common.{◌≡◌, ◌+◌, ◌≤◌, map, drop}
use Rattle.logic4.specs.Vector.{greatest_width}
use Rattle.model.specs.SourceTrees.{source_expression_of, source_expressions}
use Rattle.model.specs.Elaboration.{all_resolved, widths_of}
use Rattle.model.specs.Expressions.{total_size}
use Rattle.elaborate.specs.Formed.{AreFormed}
use Rattle.elaborate.specs.FirstFindings.{capped, all_found, or_fault, first_finding}
use Rattle.elaborate.proofs.check.+found.Given as goal

abbrev pub invariant-expressions-loop-part : goal.invariant-expressions-loop-part
invariant-expressions-loop-part l = record {
  size : capped (total_size (widths_of l.names) (all_resolved l.names (source_expressions (map source_expression_of l.parts))))
      ≡ capped (l.size + total_size (widths_of l.names) (all_resolved l.names (source_expressions (map source_expression_of (drop l.part-index l.parts)))));
  small : l.size ≤ greatest_width + 1;
  formed : AreFormed (source_expressions (map source_expression_of (drop l.part-index l.parts))) → AreFormed (source_expressions (map source_expression_of l.parts));
  found : all_found l.names (source_expressions (map source_expression_of l.parts)) ≡ or_fault (first_finding l.first_finding) (all_found l.names (source_expressions (map source_expression_of (drop l.part-index l.parts))));
}
