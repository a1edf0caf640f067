-- This one is apart from those that were looked at.
use Rattle.std.proofs.Common.{ℕ, ◌<◌, get_or}
use Rattle.runs.specs.declared.run.RunRecord.{RunRecord}
use Rattle.runs.specs.Compared.{AreDifferentRuns}
use Rattle.seeded.proofs.samples.first_close.Given as goal

abbrev pub invariant-loop-place : goal.invariant-loop-place
invariant-loop-place l = (k : ℕ) (d : RunRecord) → k < l.place → AreDifferentRuns (get_or l.kept k d) l.run
