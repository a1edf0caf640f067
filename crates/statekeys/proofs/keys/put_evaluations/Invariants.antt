use Rattle.std.proofs.Common.{◌≡◌, map}
use Rattle.statekeys.proofs.keys.put_evaluations.Given as goal

abbrev pub invariant-loop-evaluation : goal.invariant-loop-evaluation
invariant-loop-evaluation l = l.processes.items ≡ map (λ e. e.now.process) l.yielded
