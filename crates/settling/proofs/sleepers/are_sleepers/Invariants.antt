-- Those that were looked at are sleepers.
use Rattle.std.proofs.Common.{ℕ, ◌<◌, get_or}
use Rattle.regions.specs.Machine.{state_at}
use Rattle.settling.specs.declared.sleepers.Sleeper.{Sleeper}
use Rattle.settling.proofs.Sleeping.{IsSleeper}
use Rattle.settling.proofs.sleepers.are_sleepers.Given as goal

abbrev pub invariant-loop-place : goal.invariant-loop-place
invariant-loop-place l = (k : ℕ) (d : Sleeper) → k < l.place → IsSleeper l.machine.code (state_at l.machine) l.members (get_or l.sleepers k d)
