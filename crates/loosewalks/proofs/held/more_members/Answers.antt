-- What was found is there.
use Rattle.regions.specs.Machine.{state_at}
use Rattle.settling.specs.Settling.{MayBeHeld}
use Rattle.loosewalks.proofs.GoingOn.{found_there}
use Rattle.loosewalks.proofs.held.more_members.Goals as goal

pub returns : goal.returns
returns c =
    let m = c.args.machine.now in
    found_there _ c.in-Some.held (λ v. MayBeHeld m.code (state_at m) c.args.scope.network.now v.items) c.in-Some.is c.in_ok-held.ensures.may
