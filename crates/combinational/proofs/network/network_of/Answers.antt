-- One logic less.
use Rattle.combinational.proofs.Places.{set_none}
use Rattle.combinational.proofs.network.network_of.Goals as goal

pub loop-preserved : goal.loop-preserved
loop-preserved c = λ p logic there. c.loop.invariant p logic (set_none c.loop.network.logics.items c.in-Some.at p logic there)
