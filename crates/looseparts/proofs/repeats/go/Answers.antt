-- One step more.
use Rattle.std.proofs.Common.{List, take, get_or, refl, sym, subst, ◌∙◌}
use Rattle.std.proofs.lemmas.List.{take_all, take_more}
use Rattle.loose.specs.declared.transition.LooseTransition.{LooseTransition}
use Rattle.loose.specs.declared.transition.LooseTransition.TheVariants.{Process}
use Rattle.loose.specs.Classes.{class_in}
use Rattle.looseparts.specs.GoneWays.{IsWayGone}
use Rattle.looseparts.proofs.GoneAgain.{gone_nowhere, gone_more}
use Rattle.looseparts.proofs.repeats.go.Goals as goal

pub loop-actor-init : goal.loop-actor-init
loop-actor-init c = record { gone = gone_nowhere (class_in c.args.classes.now) c.args.machine.now c.requires; code = refl }

pub take_step-requires : goal.take_step-requires
take_step-requires c = c.loop-actor.invariant.gone.new_order

pub loop-actor-preserved : goal.loop-actor-preserved
loop-actor-preserved c =
    let class = class_in c.args.classes.now in
    let way = c.args.way.now in
    let at = c.loop-actor.actor-index in
    let new = c.take_step.new.machine in
    record {
      gone = subst (λ (l : List LooseTransition). IsWayGone class c.args.machine.now l new) (sym (take_more way at (Process 0) c.loop-actor-test.true))
          (gone_more class c.args.machine.now c.loop-actor.machine new (take at way) (get_or way at (Process 0)) c.take_step.new.room.note c.loop-actor.invariant.code c.loop-actor.invariant.gone
          (c.in_ok-take_step.ensures.taken c.if-not-branch.false));
      code = c.take_step.ensures.code ∙ c.loop-actor.invariant.code;
    }

pub returns-clause-gone : goal.returns-clause-gone
returns-clause-gone c = λ done.
    subst (λ (l : List LooseTransition). IsWayGone (class_in c.args.classes.now) c.args.machine.now l c.loop-actor.machine) (take_all c.loop-actor.actor-index c.args.way.now c.loop-actor-test.false) c.loop-actor.invariant.gone
