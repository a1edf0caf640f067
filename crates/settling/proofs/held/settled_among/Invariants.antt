-- Those that were found are pending or settled.
use Rattle.regions.specs.Machine.{state_at}
use Rattle.settling.specs.Settling.{ArePendingOrSettled}
use Rattle.settling.proofs.held.settled_among.Given as goal

abbrev pub invariant-loop-process : goal.invariant-loop-process
invariant-loop-process l = ArePendingOrSettled l.machine.code (state_at l.machine) l.network l.settled.items
