-- The updates and then the evaluations are the active events.
use Rattle.std.proofs.Common.{◌∙◌, ap, map, codes}
use Rattle.regions.specs.Queue.{Core, evaluation_event, update_event}
use Rattle.explain.proofs.Pieces.{lines_both}
use Rattle.explain.proofs.ending.push_active.Goals as goal

pub returns : goal.returns
returns c =
    lines_both c.push_queue-2.result c.args.names.now (codes "  active") (map update_event c.active.result.0.now.items) (map evaluation_event c.active.result.1.now.items)
    c.args.machine.now.core.active c.args.text.now.items c.push_queue.new.text.items c.push_queue-2.new.text.items
    (c.active.ensures ∙ ap (λ (k : Core). k.active) c.state.ensures) c.in_ok-push_queue.ensures c.push_queue-2.ensures
