-- What was taken from where processes were held.
use Rattle.loosewalks.specs.Held.{IsHeldStart}
use Rattle.loosewalks.proofs.GoingOn.{found_there}
use Rattle.loosewalks.proofs.held.take_held_until_settled.Goals as goal

pub settle_from-all-requires-clause-start : goal.settle_from-all-requires-clause-start
settle_from-all-requires-clause-start c =
    found_there _ c.in-Some.start (IsHeldStart c.args.machine.now c.args.holding.scope.network.now c.args.holding.held.now) c.in-Some.is c.in_ok-start.ensures
