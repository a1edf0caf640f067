-- A long text is written.
use Rattle.explain.proofs.Sending.{sent_off_if}
use Rattle.explain.proofs.telling.send_full.Goals as goal

pub returns-clause-sent : goal.returns-clause-sent
returns-clause-sent g c = sent_off_if _ _ _ _ _ c.send_off.ensures.sent c.send_off.ensures.empty
