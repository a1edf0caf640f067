use Rattle.std.proofs.Common.{◌≡◌, length}
use Rattle.preprocess.proofs.preprocessor.Preprocessor.read_body.Given as goal

abbrev pub invariant-loop-piece : goal.invariant-loop-piece
invariant-loop-piece l = l.self.work.files.items ≡ l.fn.self.work.files.items

abbrev pub decreases-loop-piece : goal.decreases-loop-piece
decreases-loop-piece l = length l.self.work.pieces.items
