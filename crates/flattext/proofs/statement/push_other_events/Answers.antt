use Rattle.std.proofs.Common.{◌++◌, codes, map, refl}
use Rattle.model.specs.SourceTrees.{source_trigger_of}
use Rattle.flattext.specs.Statements.{trigger_text, other_triggers_text}
use Rattle.flattext.proofs.Each.{each_two_more, each_put}
use Rattle.flattext.proofs.statement.push_other_events.Goals as goal

pub loop-event-preserved : goal.loop-event-preserved
loop-event-preserved c =
    let all = c.args.events.now in
    each_two_more (λ rest. other_triggers_text (map source_trigger_of rest)) (codes " or ") (trigger_text (source_trigger_of c.event-item.result)) c.push_event.new.text.items c.extend_from_slice.new.self.items
    c.loop-event.text.items (c.args.text.now.items ++ other_triggers_text (map source_trigger_of all)) all c.loop-event.event-index c.event-item.result c.loop-event-test.true c.event-item.is refl c.loop-event.invariant
    c.in_ok-extend_from_slice.ensures.items c.in_ok-push_event.ensures

pub returns : goal.returns
returns c =
    let all = c.args.events.now in
    each_put (λ rest. other_triggers_text (map source_trigger_of rest)) c.loop-event.text.items (c.args.text.now.items ++ other_triggers_text (map source_trigger_of all)) all c.loop-event.event-index c.loop-event-test.false refl
    c.loop-event.invariant
