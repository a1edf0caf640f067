-- Those that are held are among those that are pending or settled.
use Rattle.std.proofs.Common.{◌∙◌, ℕ, List, ap, sym}
use Rattle.model.specs.Turns.{contains}
use Rattle.regions.specs.Machine.{state_at}
use Rattle.settling.specs.Settling.{ArePendingOrSettled, AreSomeOf, MayBeHeld}
use Rattle.loosewalks.proofs.GoingOn.{both_found}
use Rattle.loosewalks.proofs.held.settled_members.Goals as goal

pub returns : goal.returns
returns c =
    let m = c.args.machine.now in
    let s = state_at m in
    let network = c.args.scope.network.now in
    both_found c.held_among.result (λ held. MayBeHeld m.code s network held.items) (λ held. AreSomeOf held.items c.deref-2.result.now)
    (λ held. MayBeHeld m.code s network held.items × ArePendingOrSettled m.code s network held.items)
    (λ held may some. (may, λ p there. c.in_ok-settled.ensures p (ap (λ (l : List ℕ). contains l p) (sym c.deref-2.ensures.value) ∙ some p there)))
    c.held_among.ensures.may c.held_among.ensures.subset
