-- Those that were found are members, and among the processes.
use Rattle.regions.specs.Machine.{state_at}
use Rattle.settling.specs.Settling.{AreMembers, AreSomeOf}
use Rattle.settling.proofs.held.candidates.Given as goal

abbrev pub invariant-loop-process : goal.invariant-loop-process
invariant-loop-process l = record {
  each : AreMembers l.machine.code (state_at l.machine) l.network l.members.items;
  subset : AreSomeOf l.members.items l.among;
}
