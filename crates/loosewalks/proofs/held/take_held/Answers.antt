-- From the start that was found.
use Rattle.loosewalks.specs.Held.{IsHeldStart}
use Rattle.loosewalks.proofs.GoingOn.{found_there}
use Rattle.loosewalks.proofs.held.take_held.Goals as goal

pub take_from-all-requires : goal.take_from-all-requires
take_from-all-requires c =
    found_there _ c.in-Some.start (IsHeldStart c.args.machine.now c.args.holding.scope.network.now c.args.holding.held.now) c.in-Some.is c.in_ok-start.ensures
