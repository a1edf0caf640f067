-- What is still to be put are the events that are left.
use Rattle.std.proofs.Common.{◌≡◌, ◌++◌, map, drop}
use Rattle.model.specs.SourceTrees.{source_trigger_of}
use Rattle.flattext.specs.Statements.{other_triggers_text}
use Rattle.flattext.proofs.statement.push_other_events.Given as goal

abbrev pub invariant-loop-event : goal.invariant-loop-event
invariant-loop-event l =
    l.text.items ++ other_triggers_text (map source_trigger_of (drop l.event-index l.events)) ≡ l.fn.text.items ++ other_triggers_text (map source_trigger_of l.events)
