-- What is left is the first part of what was there.
use Rattle.explore.proofs.Growing.{Extends-itself, Extends-through}
use Rattle.explore.proofs.again.drop_astray.Goals as goal

pub loop-init : goal.loop-init
loop-init g c = record { front = Extends-itself c.args.checkpoints.now.nodes.items }

pub loop-preserved : goal.loop-preserved
loop-preserved g c = record { front = Extends-through c.take-gone.new.self.nodes.items c.loop.checkpoints.nodes.items c.args.checkpoints.now.nodes.items c.take-gone.ensures.rest c.loop.invariant.front }
