-- The processes of the evaluations so far.
use Rattle.std.proofs.Common.{◌≡◌, map, take}
use Rattle.regions.specs.declared.queue.Evaluation.{Evaluation}
use Rattle.settling.proofs.begin.evaluated_processes.Given as goal

abbrev pub invariant-loop-at : goal.invariant-loop-at
invariant-loop-at l = l.processes.items ≡ map (λ (x : Evaluation). x.process) (take l.at l.evaluations.items)
