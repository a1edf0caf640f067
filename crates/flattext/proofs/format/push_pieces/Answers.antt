use Rattle.std.proofs.Common.{◌++◌, map, refl}
use Rattle.model.specs.SourceTrees.{piece_of}
use Rattle.flattext.specs.Formats.{piece_text, pieces_text}
use Rattle.flattext.proofs.Each.{each_more, each_put}
use Rattle.flattext.proofs.format.push_pieces.Goals as goal

pub loop-piece-preserved : goal.loop-piece-preserved
loop-piece-preserved c =
    let all = c.args.pieces.now in
    each_more (λ rest. pieces_text (map piece_of rest)) (piece_text (piece_of c.piece-item.result)) c.push_piece.new.text.items c.loop-piece.text.items (c.args.text.now.items ++ pieces_text (map piece_of all)) all
    c.loop-piece.piece-index c.piece-item.result c.loop-piece-test.true c.piece-item.is refl c.loop-piece.invariant c.in_ok-push_piece.ensures

pub returns : goal.returns
returns c =
    let all = c.args.pieces.now in
    each_put (λ rest. pieces_text (map piece_of rest)) c.loop-piece.text.items (c.args.text.now.items ++ pieces_text (map piece_of all)) all c.loop-piece.piece-index c.loop-piece-test.false refl c.loop-piece.invariant
