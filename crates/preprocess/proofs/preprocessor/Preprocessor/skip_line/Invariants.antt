use Rattle.std.proofs.Common.{◌≡◌, length}
use Rattle.preprocess.proofs.preprocessor.Preprocessor.skip_line.Given as goal

abbrev pub invariant-loop : goal.invariant-loop
invariant-loop l = l.self.work.files.items ≡ l.fn.self.work.files.items

abbrev pub decreases-loop : goal.decreases-loop
decreases-loop l = length l.self.work.pieces.items
