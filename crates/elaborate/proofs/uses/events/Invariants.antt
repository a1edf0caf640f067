use Rattle.std.proofs.Common.{◌≡◌, map, drop}
use Rattle.model.specs.SourceTrees.{source_trigger_of}
use Rattle.elaborate.specs.FirstFindings.{unknown_among}
use Rattle.elaborate.proofs.uses.events.Given as goal

abbrev pub invariant-loop-event : goal.invariant-loop-event
invariant-loop-event l =
    unknown_among l.names (map (λ t. t.1) (map source_trigger_of l.events)) ≡ unknown_among l.names (map (λ t. t.1) (map source_trigger_of (drop l.event-index l.events)))
