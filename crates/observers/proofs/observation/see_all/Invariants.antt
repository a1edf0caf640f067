-- The entries so far were taken and seen.
use Rattle.std.proofs.Common.{◌≡◌}
use Rattle.observers.specs.Observers.{observer_of}
use Rattle.observers.specs.Observations.{HasSeen}
use Rattle.observers.proofs.observation.see_all.Given as goal

abbrev pub invariant-loop-entry : goal.invariant-loop-entry
invariant-loop-entry l = record {
  code : l.machine.code ≡ l.fn.machine.code;
  seen : HasSeen (observer_of l.observing) l.journal l.entry-index l.text.items l.machine;
}
