use Rattle.std.proofs.Common.{◌≡◌, length}
use Rattle.preprocess.proofs.preprocessor.Preprocessor.next_piece.Given as goal

abbrev pub invariant-loop-self : goal.invariant-loop-self
invariant-loop-self l = l.self.work.files.items ≡ l.fn.self.work.files.items

abbrev pub decreases-loop-self : goal.decreases-loop-self
decreases-loop-self l = length l.self.work.open.items
