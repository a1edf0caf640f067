-- The events so far are made.
use Rattle.std.proofs.Common.{map, take}
use Rattle.statement_forms.specs.Views.{core_triggers}
use Rattle.statement_parts.specs.Statements.{plain_event}
use Rattle.statement_parts.specs.Parts.{AreWaitedEvents}
use Rattle.statement_parts.specs.Places.{surroundings}
use Rattle.statement_parts.proofs.targets.events_at.Given as goal

abbrev pub invariant-loop-event : goal.invariant-loop-event
invariant-loop-event l = AreWaitedEvents ((surroundings l.design).names l.scope) ((surroundings l.design).event l.scope) (map plain_event (take l.event-index l.events)) (core_triggers l.made)
