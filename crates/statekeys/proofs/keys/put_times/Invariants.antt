use Rattle.std.proofs.Common.{◌≡◌, map}
use Rattle.statekeys.proofs.keys.put_times.Given as goal

abbrev pub invariant-loop-due : goal.invariant-loop-due
invariant-loop-due g l = l.times.items ≡ map (λ d. d.now.time) l.yielded
