-- The evaluations so far are of processes that are held.
use Rattle.std.proofs.Common.{◌≡◌, ℕ, ◌<◌, true, get_or}
use Rattle.model.specs.Turns.{contains}
use Rattle.regions.specs.declared.queue.Evaluation.{Evaluation}
use Rattle.loosewalks.proofs.active.first_unheld.Given as goal

abbrev pub invariant-loop-at : goal.invariant-loop-at
invariant-loop-at l = (k : ℕ) (d : Evaluation) → k < l.at → contains l.held (get_or l.evaluations.items k d).process ≡ true
