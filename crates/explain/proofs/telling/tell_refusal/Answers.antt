-- Why the entry isn't lawful is put behind the text, and both are written.
use Rattle.std.proofs.Common.{◌∙◌}
use Rattle.explain.proofs.Sending.{refused_if}
use Rattle.explain.proofs.telling.tell_refusal.Goals as goal

pub returns-in-Ok-clause-refused : goal.returns-in-Ok-clause-refused
returns-in-Ok-clause-refused g c =
    refused_if _ c.args.telling.now c.args.explainer.now.position c.machine.result.now c.args.fault c.args.text.now.items c.deref.result.now _ _ c.machine.ensures (c.deref.ensures.value ∙ c.in-Ok.ensures)
    c.send.ensures.sent
