use Rattle.std.proofs.Common.{◌≡◌, ◌++◌, drop, map, option_map}
use Rattle.model.specs.Elaboration.{pieces_from, pieces_of}
use Rattle.model.specs.SourceTrees.{piece_of}
use Rattle.elaborate.specs.Formats.{stage_of}
use Rattle.elaborate.proofs.format.pieces.Given as goal

abbrev pub invariant-loop-byte : goal.invariant-loop-byte
invariant-loop-byte l =
    option_map (λ more. map piece_of l.pieces.items ++ more) (pieces_from (stage_of l.stage) (drop l.byte-index l.format)) ≡ pieces_of l.format
