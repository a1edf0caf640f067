-- The last transition is followed by the machine itself.
use Rattle.std.proofs.Common.{List, sym, subst}
use Rattle.loose.specs.declared.transition.LooseTransition.{LooseTransition}
use Rattle.loose.specs.Classes.{class_in}
use Rattle.regions.specs.Machine.{MachineView, state_at}
use Rattle.lawful.specs.LooseNodes.{AreLooseWaysFor}
use Rattle.lawful.proofs.Ways.{more_ways}
use Rattle.lawful.proofs.expand.follow_all.Goals as goal

pub returns-in-Some : goal.returns-in-Some
returns-in-Some c =
    let m = c.args.machine.value in
    let class = class_in c.args.scope.classes.now in
    let ways = c.in_ok-ways-in-Some.ways in
    let new = c.add.new.ways in
    let before : AreLooseWaysFor class m.code c.args.scope.limits (state_at m) c.in-Some.others.now ways.successors.items ways.ended.items =
    subst (λ (p : MachineView). AreLooseWaysFor class p.code c.args.scope.limits (state_at p) c.in-Some.others.now ways.successors.items ways.ended.items) c.deref.ensures c.in_ok-ways-in-Some.ensures in
    subst (λ (l : List LooseTransition). AreLooseWaysFor class m.code c.args.scope.limits (state_at m) l new.successors.items new.ended.items) (sym c.in-Some.ensures.cases.0)
    (more_ways class m.code c.args.scope.limits (state_at m) c.in-Some.others.now c.in-Some.last.now ways.successors.items new.successors.items ways.ended.items new.ended.items c.in_ok-way-in-Some.way before c.in_ok-way-in-Some.ensures c.in_ok-add-in-Some.ensures)
