use Rattle.std.proofs.Common.{◌≡◌, map}
use Rattle.model.specs.SourceTrees.{source_expression_of}
use Rattle.sizing.specs.Parts.{copies_of}
use Rattle.sizing.proofs.concatenations.several.Given as goal

abbrev pub invariant-loop-count : goal.invariant-loop-count
invariant-loop-count l = map source_expression_of l.made.items ≡ copies_of l.count (source_expression_of l.tree)
