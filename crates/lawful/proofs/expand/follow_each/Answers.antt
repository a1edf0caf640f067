-- One transition more is followed.
use Rattle.std.proofs.Common.{take, get_or, sym, subst, List, arith}
use Rattle.std.proofs.lemmas.List.{take_more}
use Rattle.loose.specs.declared.transition.LooseTransition.{LooseTransition}
use Rattle.loose.specs.declared.transition.LooseTransition.TheVariants.{Process}
use Rattle.loose.specs.Classes.{class_in}
use Rattle.regions.specs.Machine.{MachineView, state_at}
use Rattle.lawful.specs.Following.{IsWayBy}
use Rattle.lawful.specs.LooseNodes.{AreLooseWaysFor}
use Rattle.lawful.proofs.Ways.{more_ways}
use Rattle.lawful.proofs.expand.follow_each.Goals as goal

pub loop-transition-preserved : goal.loop-transition-preserved
loop-transition-preserved c =
    let transitions = c.args.transitions.now in
    let at = c.loop-transition.transition-index in
    let class = class_in c.args.scope.classes.now in
    let m = c.args.machine.now in
    subst (λ (l : List LooseTransition). AreLooseWaysFor class m.code c.args.scope.limits (state_at m) l c.add.new.ways.successors.items c.add.new.ways.ended.items) (sym (take_more transitions at (Process 0) (omega arith)))
    (more_ways class m.code c.args.scope.limits (state_at m) (take at transitions) (get_or transitions at (Process 0)) c.loop-transition.ways.successors.items c.add.new.ways.successors.items c.loop-transition.ways.ended.items c.add.new.ways.ended.items c.in_ok-way.way
    c.loop-transition.invariant
    (subst (λ (p : MachineView). IsWayBy class p.code c.args.scope.limits (state_at p) (get_or transitions at (Process 0)) c.in_ok-way.way) c.in_ok-copy.ensures c.in_ok-way.ensures) c.in_ok-add.ensures)
