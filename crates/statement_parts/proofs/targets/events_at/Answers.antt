-- No event yet, and one event more.
use Rattle.std.proofs.Common.{List, [], map, subst, sym, arith}
use Rattle.model.specs.declared.tree.EventExpression.{EventExpression}
use Rattle.model.specs.SourceTrees.{source_trigger_of}
use Rattle.statement_parts.specs.Places.{surroundings}
use Rattle.statement_parts.specs.Parts.{AreWaitedEvents, no_event}
use Rattle.statement_parts.proofs.Meant.{one_event_more}
use Rattle.statement_parts.proofs.targets.events_at.Goals as goal

pub loop-event-init : goal.loop-event-init
loop-event-init c =
    let d = surroundings c.args.design.now in
    subst (λ (made : List EventExpression). AreWaitedEvents (d.names c.args.scope) (d.event c.args.scope) [] (map source_trigger_of made)) (sym c.new-made.ensures.items) no_event

pub loop-event-preserved : goal.loop-event-preserved
loop-event-preserved c =
    one_event_more (surroundings c.args.design.now) c.args.scope c.args.events.now c.loop-event.event-index c.event-item.result c.loop-event.made.items c.push.new.self.items _ (omega arith) c.event-item.is c.in_ok-push.ensures.items
    c.change_of.ensures c.in_ok-name.ensures c.loop-event.invariant
