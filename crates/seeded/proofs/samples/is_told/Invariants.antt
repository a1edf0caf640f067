-- None of those that were looked at stands for this one.
use Rattle.std.proofs.Common.{ℕ, ◌<◌, ◌⊎◌, get_or}
use Rattle.runs.specs.declared.run.RunRecord.{RunRecord}
use Rattle.runs.specs.Compared.{AreDifferentRuns}
use Rattle.seeded.specs.Samples.{GivesWay}
use Rattle.seeded.proofs.samples.is_told.Given as goal

abbrev pub invariant-loop-one : goal.invariant-loop-one
invariant-loop-one l = (k : ℕ) (d : RunRecord) → k < l.one-index → AreDifferentRuns (get_or l.kept k d) l.run ⊎ GivesWay (get_or l.kept k d) l.run
