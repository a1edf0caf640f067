-- What is copied so far, with what is left, is all.
use Rattle.std.proofs.Common.{◌≡◌, ◌++◌, map, drop}
use Rattle.syntax_tree.specs.Expressions.{plain_expression_of}
use Rattle.call_nodes.proofs.copies.+copying.Given as goal

abbrev pub invariant-copied_all-loop-e : goal.invariant-copied_all-loop-e
invariant-copied_all-loop-e l = map plain_expression_of l.made.items ++ map plain_expression_of (drop l.e-index l.all) ≡ map plain_expression_of l.all
