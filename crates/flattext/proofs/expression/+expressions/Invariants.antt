-- What is still to be put are the arguments that are left.
use Rattle.std.proofs.Common.{◌≡◌, ◌++◌, map, drop}
use Rattle.model.specs.SourceTrees.{source_expression_of, source_expressions}
use Rattle.flattext.specs.Expressions.{arguments_text}
use Rattle.flattext.proofs.expression.+expressions.Given as goal

abbrev pub invariant-push_arguments-loop-argument : goal.invariant-push_arguments-loop-argument
invariant-push_arguments-loop-argument l =
    l.text.items ++ arguments_text (source_expressions (map source_expression_of (drop l.argument-index l.arguments)))
    ≡ l.fn.text.items ++ arguments_text (source_expressions (map source_expression_of l.arguments))
