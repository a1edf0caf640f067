-- Those of the first processes are noted that are woken.
use Rattle.std.proofs.Common.{◌≡◌, ◌++◌, take}
use Rattle.regions.specs.Machine.{state_at}
use Rattle.footprints.specs.Footprints.{woken_by_changes}
use Rattle.model.specs.Turns.{contains}
use Rattle.heldmoves.specs.WithoutHeld.{without_held}
use Rattle.noted.proofs.waking.note_woken.Given as goal

abbrev pub invariant-loop-place : goal.invariant-loop-place
invariant-loop-place l = l.woken ≡ l.fn.woken ++ woken_by_changes l.changes (take l.place (without_held (contains l.held) (state_at l.machine)).processes)
