-- What was found is there.
use Rattle.regions.specs.Machine.{state_at}
use Rattle.settling.specs.Settling.{AreSomeOf, MayBeHeld}
use Rattle.loosewalks.proofs.GoingOn.{found_there}
use Rattle.loosewalks.proofs.held.held_among.Goals as goal

pub returns-clause-may : goal.returns-clause-may
returns-clause-may c =
    let m = c.args.machine.now in
    found_there _ c.in-Some.held (λ v. MayBeHeld m.code (state_at m) c.args.scope.network.now v.items) c.in-Some.is c.in_ok-held.ensures.may

pub returns-clause-subset : goal.returns-clause-subset
returns-clause-subset c = found_there _ c.in-Some.held (λ v. AreSomeOf v.items c.args.among.now) c.in-Some.is c.in_ok-held.ensures.subset
