-- What is still to be put are the pieces that are left.
use Rattle.std.proofs.Common.{◌≡◌, ◌++◌, map, drop}
use Rattle.model.specs.SourceTrees.{piece_of}
use Rattle.flattext.specs.Formats.{pieces_text}
use Rattle.flattext.proofs.format.push_pieces.Given as goal

abbrev pub invariant-loop-piece : goal.invariant-loop-piece
invariant-loop-piece l = l.text.items ++ pieces_text (map piece_of (drop l.piece-index l.pieces)) ≡ l.fn.text.items ++ pieces_text (map piece_of l.pieces)
