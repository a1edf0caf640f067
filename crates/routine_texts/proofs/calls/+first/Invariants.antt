-- A call stands among those that are left, where one stands among all.
use Rattle.std.proofs.Common.{◌≡◌, map, drop}
use Rattle.syntax_tree.specs.Expressions.{plain_expression_of, plain_expressions}
use Rattle.routine_texts.specs.Calls.{calls_in_any}
use Rattle.routine_texts.proofs.calls.+first.Given as goal

abbrev pub invariant-first_of-loop-e : goal.invariant-first_of-loop-e
invariant-first_of-loop-e l = calls_in_any (plain_expressions (map plain_expression_of (drop l.e-index l.all))) ≡ calls_in_any (plain_expressions (map plain_expression_of l.all))
