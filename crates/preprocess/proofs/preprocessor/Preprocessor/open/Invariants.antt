use Rattle.std.proofs.Common.{◌≡◌}
use Rattle.preprocess.proofs.preprocessor.Preprocessor.open.Given as goal

abbrev pub invariant-loop-left : goal.invariant-loop-left
invariant-loop-left l = l.self.work.files.items ≡ l.fn.self.work.files.items

abbrev pub decreases-loop-left : goal.decreases-loop-left
decreases-loop-left l = l.left
