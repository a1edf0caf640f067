-- What is still to be put are the arguments that are left, by the pieces that are left.
use Rattle.std.proofs.Common.{◌≡◌, ◌++◌, map, drop}
use Rattle.model.specs.SourceTrees.{piece_of, source_expression_of, source_expressions}
use Rattle.flattext.specs.Formats.{shown_arguments}
use Rattle.flattext.proofs.format.push_shown.Given as goal

abbrev pub invariant-loop-piece : goal.invariant-loop-piece
invariant-loop-piece l =
    l.text.items ++ shown_arguments (map piece_of (drop l.piece-index l.pieces)) (source_expressions (map source_expression_of l.left))
    ≡ l.fn.text.items ++ shown_arguments (map piece_of l.pieces) (source_expressions (map source_expression_of l.arguments))
