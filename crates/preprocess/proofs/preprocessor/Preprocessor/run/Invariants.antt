-- Files that are included are added.
use Rattle.preprocess.specs.Sources.{AddsIncluded}
use Rattle.preprocess.proofs.preprocessor.Preprocessor.run.Given as goal

abbrev pub invariant-loop-piece : goal.invariant-loop-piece
invariant-loop-piece l = AddsIncluded l.known l.fn.self.work.files.items l.self.work.files.items

abbrev pub decreases-loop-piece : goal.decreases-loop-piece
decreases-loop-piece l = l.steps
