-- Those that were looked at sleep.
use Rattle.std.proofs.Common.{◌≡◌, ℕ, ◌<◌, false, get_or}
use Rattle.model.specs.Turns.{contains}
use Rattle.regions.specs.declared.queue.Continuation.{Continuation}
use Rattle.regions.specs.ProcessWaking.{triggers_at}
use Rattle.settling.specs.Waiting.{WaitsForNone}
use Rattle.settling.proofs.awaited.others_sleep.Given as goal

abbrev pub invariant-loop-at : goal.invariant-loop-at
invariant-loop-at l = (k : ℕ) (d : Continuation) → k < l.at → contains l.members k ≡ false → WaitsForNone (triggers_at l.controls (get_or l.processes k d).waits) l.registers
