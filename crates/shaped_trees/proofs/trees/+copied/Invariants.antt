use Rattle.std.proofs.Common.{◌≡◌, ◌++◌, map, drop}
use Rattle.model.specs.SourceTrees.{source_expression_of}
use Rattle.shaped_trees.proofs.trees.+copied.Given as goal

abbrev pub invariant-copies-loop-part : goal.invariant-copies-loop-part
invariant-copies-loop-part l = map source_expression_of l.made.items ++ map source_expression_of (drop l.part-index l.parts) ≡ map source_expression_of l.parts
