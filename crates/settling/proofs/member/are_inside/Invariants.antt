-- Those that were looked at are of the processes.
use Rattle.std.proofs.Common.{◌≡◌, ℕ, ◌<◌, true, get_or}
use Rattle.model.specs.Turns.{contains}
use Rattle.regions.specs.declared.queue.Evaluation.{Evaluation}
use Rattle.settling.proofs.member.are_inside.Given as goal

abbrev pub invariant-loop-at : goal.invariant-loop-at
invariant-loop-at l = (k : ℕ) (d : Evaluation) → k < l.at → contains l.members (get_or l.evaluations.items k d).process ≡ true
