-- A finished machine stays, and a walk begins where the machine stands.
use Rattle.std.proofs.Common.{sym, subst}
use Rattle.design.specs.Compiled.{design_of}
use Rattle.loose.specs.Classes.{class_in}
use Rattle.regions.specs.Machine.{MachineView, state_at}
use Rattle.loosewalks.specs.Sole.{IsLikeReached}
use Rattle.loosewalks.proofs.Walks.{walk_begins}
use Rattle.lawful.proofs.expand.walk_with.Goals as goal

pub walk_loosely-walked-requires-clause-reached : goal.walk_loosely-walked-requires-clause-reached
walk_loosely-walked-requires-clause-reached c =
    subst (λ (p : MachineView). IsLikeReached (class_in c.args.scope.classes.now) (design_of p.code) (state_at p)) (sym c.exchange_log.ensures) c.requires.reached

pub returns-then-is_finished-clause-walked : goal.returns-then-is_finished-clause-walked
returns-then-is_finished-clause-walked c =
    walk_begins (class_in c.args.scope.classes.now) c.args.scope.limits c.args.machine.now c.new.result.items c.new.ensures.items c.requires.silent c.requires.reached.order
