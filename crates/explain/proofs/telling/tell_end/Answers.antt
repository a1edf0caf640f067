-- How the run stands is put behind the text, and both are written.
use Rattle.explain.proofs.Sending.{ended_if}
use Rattle.explain.proofs.telling.tell_end.Goals as goal

pub returns-in-Ok-clause-ended : goal.returns-in-Ok-clause-ended
returns-in-Ok-clause-ended g c =
    ended_if _ c.args.explainer.now.position c.machine.result.now c.args.text.now.items c.push_end.new.text.items c.deref.result.now _ _ c.machine.ensures c.in-Ok.ensures c.deref.ensures.value
    c.send.ensures.sent
