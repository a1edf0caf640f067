-- The object at the number of the event.
use Rattle.std.proofs.Common.{slice_get, option_and_then, ap, ◌∙◌}
use Rattle.statement_parts.proofs.Meant.{got_object}
use Rattle.statement_parts.proofs.targets.event_object.Goals as goal

pub returns : goal.returns
returns c =
    let objects = c.args.design.now.objects.items in
    let number = c.in_ok-event_number.field-0 in
    got_object c.deref.result.now number c.get.result c.get.ensures.lookup.3 c.get.ensures.lookup.1 ∙ ap (λ xs. slice_get xs number) c.deref.ensures.value
    ∙ ap (option_and_then (slice_get objects)) c.in_ok-event_number.ensures
