use Rattle.std.proofs.Common.{◌≡◌, ◌++◌, map, drop}
use Rattle.model.specs.Elaboration as model
use Rattle.model.specs.SourceTrees.{source_trigger_of}
use Rattle.elaborate.proofs.resolve.triggers.Given as goal

abbrev pub invariant-loop-event : goal.invariant-loop-event
invariant-loop-event l =
    l.made.items ++ map (model.trigger_of l.names) (map source_trigger_of (drop l.event-index l.events)) ≡ map (model.trigger_of l.names) (map source_trigger_of l.events)
