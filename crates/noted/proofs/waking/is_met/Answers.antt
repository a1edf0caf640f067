-- The change keeps the width of its register.
use Rattle.noted.proofs.Woken.{width_at}
use Rattle.noted.proofs.waking.is_met.Goals as goal

pub edge-edge-requires : goal.edge-edge-requires
edge-edge-requires c =
    width_at c.args.changes.now c.loop-change.change-index c.change-item.result c.loop-change-test.true c.change-item.is c.requires
