-- Those that are left are among the members.
use Rattle.settling.specs.Settling.{AreSomeOf}
use Rattle.settling.proofs.held.kept.Given as goal

abbrev pub invariant-loop : goal.invariant-loop
invariant-loop l = AreSomeOf l.members.items l.fn.members.items
