-- One update more.
use Rattle.std.proofs.Common.{arith}
use Rattle.settling.proofs.Listed.{registers_more}
use Rattle.settling.proofs.phase.updated.Goals as goal

pub loop-at-preserved : goal.loop-at-preserved
loop-at-preserved c =
    registers_more c.args.updates.now.items c.loop-at.at c.loop-at.registers.items c.push.new.self.items c.index-update.result.now (omega arith) c.loop-at.invariant c.index-update.ensures c.in_ok-push.ensures.items
