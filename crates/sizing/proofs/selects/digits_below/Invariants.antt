use Rattle.std.proofs.Common.{◌≡◌, ◌++◌, map}
use Rattle.model.specs.SourceTrees.{source_expression_of}
use Rattle.sizing.specs.Digits.{digit_trees}
use Rattle.sizing.proofs.selects.digits_below.Given as goal

abbrev pub invariant-loop-k : goal.invariant-loop-k
invariant-loop-k l = map source_expression_of l.made.items ++ digit_trees l.object l.place l.k ≡ digit_trees l.object l.place l.count
