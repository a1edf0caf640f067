-- None of the sleepers that were looked at waits for a change that passes.
use Rattle.std.proofs.Common.{ℕ, ◌<◌, [], get_or}
use Rattle.std.specs.Prelude.{slice_index_or}
use Rattle.settling.specs.declared.sleepers.Sleeper.{Sleeper}
use Rattle.heldways.specs.Passing.{AreDeaf}
use Rattle.passing.specs.Moves.{passes_by}
use Rattle.passing.proofs.sleepers.are_deaf.Given as goal

abbrev pub invariant-loop-place : goal.invariant-loop-place
invariant-loop-place l = (k : ℕ) (d : Sleeper) → k < l.place → AreDeaf (passes_by l.moves) (slice_index_or l.controls (get_or l.sleepers k d).control [])
