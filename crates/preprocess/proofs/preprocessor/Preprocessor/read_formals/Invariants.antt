use Rattle.std.proofs.Common.{◌≡◌}
use Rattle.preprocess.proofs.preprocessor.Preprocessor.read_formals.Given as goal

abbrev pub invariant-loop : goal.invariant-loop
invariant-loop l = l.self.work.files.items ≡ l.fn.self.work.files.items
