-- Those that were kept are among the members.
use Rattle.settling.specs.Settling.{AreSomeOf}
use Rattle.settling.proofs.held.unawaited.Given as goal

abbrev pub invariant-loop-member : goal.invariant-loop-member
invariant-loop-member l = AreSomeOf l.fewer.items l.members
