-- The registers of the triggers that were looked at are tracked.
use Rattle.std.proofs.Common.{◌≡◌, ◌<◌, ℕ, true, get_or}
use Rattle.model.specs.Design.{Trigger}
use Rattle.model.specs.Turns.{contains}
use Rattle.passing.proofs.sleepers.is_tracked.Given as goal

abbrev pub invariant-loop-place : goal.invariant-loop-place
invariant-loop-place l = (k : ℕ) (d : Trigger) → k < l.place → contains l.moves.tracked.items (get_or l.triggers k d).1 ≡ true
