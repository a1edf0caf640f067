-- Each transition that may be taken is among those that are followed.
use Rattle.std.proofs.Common.{List, sym, subst}
use Rattle.std.specs.List.{Contains}
use Rattle.std.proofs.lemmas.Result.{IfOk-weaker}
use Rattle.loose.specs.declared.transition.LooseTransition.{LooseTransition}
use Rattle.loose.specs.Classes.{class_in}
use Rattle.loosesteps.specs.LooselyTaken.{MayBeTaken}
use Rattle.regions.specs.Machine.{MachineView, state_at}
use Rattle.lawful.proofs.Expansions.{branched}
use Rattle.lawful.proofs.expand.branch.Goals as goal

pub returns : goal.returns
returns c =
    let m = c.args.machine.value in
    let class = class_in c.args.scope.classes.now in
    IfOk-weaker c.follow_all.result _ _ (λ x ways. branched class m.code c.args.scope.limits (state_at m) c.deref-3.result.now x c.requires.order c.requires.goes_on
    (λ transition can. subst (λ (l : List LooseTransition). Contains l transition) (sym c.deref-3.ensures.value)
    ((c.in_ok-transitions.ensures.permitted transition).1 (subst (λ (p : MachineView). MayBeTaken class (state_at p) transition) (sym c.deref-2.ensures) can)))
    ways) c.follow_all.ensures
