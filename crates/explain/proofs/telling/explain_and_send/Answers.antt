-- What is told is written, or stands in the text that isn't.
use Rattle.std.proofs.Common.{◌+◌}
use Rattle.explain.proofs.Ends.{of_entries_if, no_replay_if}
use Rattle.explain.proofs.Sending.{told_sent_if}
use Rattle.explain.proofs.telling.explain_and_send.Goals as goal

pub returns-in-Ok-clause-told : goal.returns-in-Ok-clause-told
returns-in-Ok-clause-told g c = λ start to.
    told_sent_if _ c.args.telling.now c.args.entries.now (c.args.at + 1) c.explain_entry.new.explainer start (g.W.Write.contents c.args.out.now) (g.W.Write.contents c.send_full.new.out)
    c.explain_entry.new.text.items c.send_full.new.text.items c.send_full.ensures.sent (c.in-Ok.ensures.told start (g.W.Write.contents c.args.out.now) to)

pub returns-in-Ok-clause-stopped : goal.returns-in-Ok-clause-stopped
returns-in-Ok-clause-stopped g c = λ start to. no_replay_if _ _ c.send_full.ensures.own

pub returns-in-Ok-clause-own : goal.returns-in-Ok-clause-own
returns-in-Ok-clause-own g c = of_entries_if _ c.send_full.ensures.own

pub returns-in-Err-clause-stopped : goal.returns-in-Err-clause-stopped
returns-in-Err-clause-stopped g c = λ start to. c.in-Err.ensures.stopped start (g.W.Write.contents c.args.out.now) to
