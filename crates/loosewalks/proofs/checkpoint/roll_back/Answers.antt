-- The events of the copy stand in order.
use Rattle.std.proofs.Common.{length}
use Rattle.regions.specs.Machine.{state_at}
use Rattle.loosewalks.proofs.Ordered.{in_order}
use Rattle.loosewalks.proofs.checkpoint.roll_back.Goals as goal

pub take_again-requires : goal.take_again-requires
take_again-requires c =
    let m = c.swap.new.x in
    in_order m.code.widths (length m.core.processes) (state_at m) c.stands_in_order.ensures
