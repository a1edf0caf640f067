-- The process of one evaluation more.
use Rattle.std.proofs.Common.{arith}
use Rattle.settling.proofs.Since.{processes_more}
use Rattle.settling.proofs.begin.evaluated_processes.Goals as goal

pub loop-at-preserved : goal.loop-at-preserved
loop-at-preserved c =
    processes_more c.args.evaluations.now.items c.loop-at.at c.loop-at.processes.items c.push.new.self.items c.index-evaluation.result.now (omega arith) c.loop-at.invariant c.index-evaluation.ensures c.in_ok-push.ensures.items
