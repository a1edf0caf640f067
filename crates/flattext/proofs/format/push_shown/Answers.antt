use Rattle.std.proofs.Common.{◌++◌, map}
use Rattle.model.specs.SourceTrees.{piece_of, source_expression_of, source_expressions}
use Rattle.flattext.specs.Formats.{shown_arguments}
use Rattle.flattext.proofs.Shown.{shown_more}
use Rattle.flattext.proofs.format.push_shown.Goals as goal

pub loop-piece-preserved : goal.loop-piece-preserved
loop-piece-preserved c =
    shown_more c.push_next.new.text.items c.loop-piece.text.items (c.args.text.now.items ++ shown_arguments (map piece_of c.args.pieces.now) (source_expressions (map source_expression_of c.args.arguments.now))) c.args.pieces.now
    c.loop-piece.piece-index c.piece-item.result c.loop-piece.left.now c.in_ok-left.left.now c.loop-piece-test.true c.piece-item.is c.loop-piece.invariant c.in_ok-left.ensures
