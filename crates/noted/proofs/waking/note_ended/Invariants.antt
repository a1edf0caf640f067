-- What the first processes wait for is noted.
use Rattle.std.proofs.Common.{◌≡◌, ◌++◌, take}
use Rattle.regions.specs.Machine.{state_at}
use Rattle.footprints.specs.Footprints.{awaited_by_all}
use Rattle.model.specs.Turns.{contains}
use Rattle.heldmoves.specs.WithoutHeld.{without_held}
use Rattle.noted.proofs.waking.note_ended.Given as goal

abbrev pub invariant-loop-process : goal.invariant-loop-process
invariant-loop-process l = l.list ≡ l.fn.list ++ awaited_by_all (without_held (contains l.held) (state_at l.machine)).processes (take l.process-index l.processes)
