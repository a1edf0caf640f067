-- All who wait were followed.
use Rattle.std.proofs.Common.{◌≡◌, true, ◌∙◌, sym, subst}
use Rattle.std.specs.Prelude.{IfSome}
use Rattle.std.specs.List.{Contains}
use Rattle.std.specs.Global.{Vec}
use Rattle.model.specs.Runs.{has_any}
use Rattle.design.specs.Compiled.{design_of}
use Rattle.loose.specs.Classes.{class_in}
use Rattle.regions.specs.Machine.{state_at}
use Rattle.loose.specs.declared.transition.LooseTransition.{LooseTransition}
use Rattle.looseruns.specs.ObservedEnding.{CoverToFinish}
use Rattle.looseparts.specs.FoundWays.{ways_in}
use Rattle.looseparts.specs.FoundGroups.{IsFoundFor}
use Rattle.looseparts.proofs.ActorSteps.{somebody_waits, waiting_may}
use Rattle.looseparts.proofs.Groups.{covers, nobody_long}
use Rattle.looseparts.proofs.parts.ways_by_parts.Goals as goal

pub returns-in-Some-clause-cover : goal.returns-in-Some-clause-cover
returns-in-Some-clause-cover c = λ limits.
    let class = class_in c.args.classes.now in
    let m = c.args.machine.now in
    let going = sym c.is_finished.ensures ∙ c.if-is_finished.false in
    let (a, waits) = somebody_waits class (state_at m) (subst (λ q. has_any q.active ≡ true) c.state.ensures (sym c.is_active.ensures ∙ c.if-not-is_active.false)) in
    let ways = c.covering.result.ways in
    let ends = c.covering.result.ends in
    subst (λ (z : Vec (Vec LooseTransition)). CoverToFinish class (design_of m.code) limits (state_at m) (ways_in ways.items) (ways_in z.items)) (sym c.covering.ensures.ends)
    (subst (λ (z : Vec (Vec LooseTransition)). CoverToFinish class (design_of m.code) limits (state_at m) (ways_in z.items) (ways_in c.in-Some.found.ends.items)) (sym c.covering.ensures.ways)
    (covers class m.code limits (state_at m) c.deref.result.now c.in-Some.found a waits
    (subst (λ o. IfSome o (IsFoundFor class m.code (state_at m) c.deref.result.now)) c.in-Some.is (c.in_ok-found.ensures.going going))
    (λ b waits'. subst (λ z. Contains z b) (sym c.deref.ensures.value) ((c.in_ok-group.ensures.permitted b).1 (waiting_may class (design_of m.code) (state_at m) b c.requires going waits')))))

pub returns-in-Some-clause-short : goal.returns-in-Some-clause-short
returns-in-Some-clause-short c =
    let class = class_in c.args.classes.now in
    let m = c.args.machine.now in
    let going = sym c.is_finished.ensures ∙ c.if-is_finished.false in
    nobody_long class m.code (state_at m) c.deref.result.now c.in-Some.found
    (subst (λ o. IfSome o (IsFoundFor class m.code (state_at m) c.deref.result.now)) c.in-Some.is (c.in_ok-found.ensures.going going))
    (λ b waits'. subst (λ z. Contains z b) (sym c.deref.ensures.value) ((c.in_ok-group.ensures.permitted b).1 (waiting_may class (design_of m.code) (state_at m) b c.requires going waits')))
