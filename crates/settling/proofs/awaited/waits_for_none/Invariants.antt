-- Those that were looked at are of none of the registers.
use Rattle.std.proofs.Common.{◌≡◌, ℕ, ◌<◌, false, get_or}
use Rattle.model.specs.Design.{Trigger}
use Rattle.model.specs.Turns.{contains}
use Rattle.settling.proofs.awaited.waits_for_none.Given as goal

abbrev pub invariant-loop-trigger : goal.invariant-loop-trigger
invariant-loop-trigger l = (k : ℕ) (d : Trigger) → k < l.trigger-index → contains l.registers (get_or l.triggers k d).1 ≡ false
