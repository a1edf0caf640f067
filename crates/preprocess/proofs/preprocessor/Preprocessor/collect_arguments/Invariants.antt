use Rattle.std.proofs.Common.{◌≡◌, length, true}
use Rattle.std.specs.List.{list_all}
use Rattle.preprocess.specs.Places.{piece_stands}
use Rattle.preprocess.proofs.preprocessor.Preprocessor.collect_arguments.Given as goal

abbrev pub invariant-loop-piece : goal.invariant-loop-piece
invariant-loop-piece l = record { files : l.self.work.files.items ≡ l.fn.self.work.files.items; stand : list_all (piece_stands l.self.work.files.items) l.arguments.pieces.items ≡ true }

abbrev pub decreases-loop-piece : goal.decreases-loop-piece
decreases-loop-piece l = length l.self.work.pieces.items
