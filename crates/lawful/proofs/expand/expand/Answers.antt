-- Each transition is followed where a walk took none, and else the walk leads on.
use Rattle.std.proofs.Common.{ap, subst, sym, ◌≡◌, ◌∙◌}
use Rattle.std.proofs.lemmas.Result.{IfOk-weaker}
use Rattle.loose.specs.Classes.{class_in}
use Rattle.design.specs.Compiled.{design_of}
use Rattle.regions.specs.Machine.{MachineView, state_at}
use Rattle.loosewalks.specs.Sole.{IsLikeReached}
use Rattle.loosewalks.specs.LooseWalking.{HasWalkedLoosely}
use Rattle.lawful.proofs.Walked.{walked_nowhere, none_if_empty, some_if_not_empty, followed, arrived}
use Rattle.lawful.proofs.Expansions.{both_ok}
use Rattle.lawful.proofs.expand.expand.Goals as goal

pub walk_with-requires-clause-reached : goal.walk_with-requires-clause-reached
walk_with-requires-clause-reached c =
    subst (λ (p : MachineView). IsLikeReached (class_in c.args.scope.classes.now) (design_of p.code) (state_at p)) (sym c.deref_mut.ensures.value) c.requires.reached

pub follow-requires-clause-order : goal.follow-requires-clause-order
follow-requires-clause-order c =
    let moves = c.in_ok-moves.moves in
    let there = walked_nowhere (class_in c.args.scope.classes.now) c.args.scope.limits (state_at c.deref_mut.result.now) c.walk_with.new.machine moves.items c.in_ok-moves.ensures.walked (none_if_empty moves c.is_empty.result c.is_empty.ensures c.if-is_empty.true) in
    there.order

pub follow-requires-clause-silent : goal.follow-requires-clause-silent
follow-requires-clause-silent c =
    let moves = c.in_ok-moves.moves in
    let there = walked_nowhere (class_in c.args.scope.classes.now) c.args.scope.limits (state_at c.deref_mut.result.now) c.walk_with.new.machine moves.items c.in_ok-moves.ensures.walked (none_if_empty moves c.is_empty.result c.is_empty.ensures c.if-is_empty.true) in
    there.silent_is

pub returns-then-is_empty : goal.returns-then-is_empty
returns-then-is_empty c =
    let class = class_in c.args.scope.classes.now in
    let m = c.args.machine.value in
    let new = c.walk_with.new.machine in
    let moves = c.in_ok-moves.moves in
    let walked = subst (λ (p : MachineView). HasWalkedLoosely class c.args.scope.limits (state_at p) new moves.items) c.deref_mut.ensures.value c.in_ok-moves.ensures.walked in
    let there = walked_nowhere class c.args.scope.limits (state_at m) new moves.items walked (none_if_empty moves c.is_empty.result c.is_empty.ensures c.if-is_empty.true) in
    let code : new.code ≡ m.code = c.walk_with.ensures.code ∙ ap (λ (p : MachineView). p.code) c.deref_mut.ensures.value in
    IfOk-weaker c.follow.result _ _ (λ x at. followed class m.code new.code c.args.scope.limits (state_at m) new x c.requires.reached.order there code at) c.follow.ensures

pub returns : goal.returns
returns c =
    let class = class_in c.args.scope.classes.now in
    let m = c.args.machine.value in
    let new = c.walk_with.new.machine in
    let moves = c.in_ok-moves.moves in
    let walked = subst (λ (p : MachineView). HasWalkedLoosely class c.args.scope.limits (state_at p) new moves.items) c.deref_mut.ensures.value c.in_ok-moves.ensures.walked in
    let code : new.code ≡ m.code = c.walk_with.ensures.code ∙ ap (λ (p : MachineView). p.code) c.deref_mut.ensures.value in
    let some = some_if_not_empty moves c.is_empty.result c.is_empty.ensures c.if-is_empty.false in
    IfOk-weaker c.arrive.result _ _ (λ x (one, none). arrived class m.code c.args.scope.limits (state_at m) new moves.items x code walked some one none)
    (both_ok c.arrive.result _ _ c.arrive.ensures.one c.arrive.ensures.none)
