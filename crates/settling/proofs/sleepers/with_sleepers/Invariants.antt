-- The members, and the processes of the first sleepers.
use Rattle.std.proofs.Common.{◌≡◌, ◌++◌, map, take}
use Rattle.settling.specs.declared.sleepers.Sleeper.{Sleeper}
use Rattle.settling.proofs.sleepers.with_sleepers.Given as goal

abbrev pub invariant-loop-sleeper : goal.invariant-loop-sleeper
invariant-loop-sleeper l = l.both.items ≡ l.members ++ map (λ (x : Sleeper). x.process) (take l.sleeper-index l.sleepers)
