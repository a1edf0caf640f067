-- What is left is the last part of what was there.
use Rattle.std.proofs.Common.{[], refl}
use Rattle.explore.proofs.Places.{IsLastPart-through}
use Rattle.explore.proofs.recent.Recent.trim.Goals as goal

pub loop-init : goal.loop-init
loop-init g c = record { part = ([], refl) }

pub loop-preserved : goal.loop-preserved
loop-preserved g c = record { part = IsLastPart-through c.drop_oldest.new.self.nodes.items c.loop.self.nodes.items c.args.self.now.nodes.items c.drop_oldest.ensures c.loop.invariant.part }
