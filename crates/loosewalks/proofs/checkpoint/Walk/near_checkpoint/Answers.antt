-- The checkpoint that was taken out.
use Rattle.std.proofs.Common.{sym}
use Rattle.loosewalks.proofs.GoingOn.{itself}
use Rattle.loosewalks.proofs.checkpoint.Walk.near_checkpoint.Goals as goal

pub returns-then-len-steps_for_copy-clause-there : goal.returns-then-len-steps_for_copy-clause-there
returns-then-len-steps_for_copy-clause-there c = itself c.args.self.now.checkpoint c.take-checkpoint.result (sym c.take-checkpoint.ensures.value)
