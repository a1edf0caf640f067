use Rattle.std.proofs.Common.{◌≡◌, ◌≤◌, ◌+◌, map, drop}
use Rattle.model.specs.Elaboration.{argument_count}
use Rattle.model.specs.SourceTrees.{piece_of}
use Rattle.elaborate.proofs.format.shown_by.Given as goal

abbrev pub invariant-loop-piece : goal.invariant-loop-piece
invariant-loop-piece l = record {
  counted : l.count + argument_count (map piece_of (drop l.piece-index l.pieces)) ≡ argument_count (map piece_of l.pieces);
  few : l.count ≤ l.piece-index;
}
