-- One event after another, until none is active.
use Rattle.std.proofs.Common.{◌∙◌, Option, refl, subst}
use Rattle.std.specs.Prelude.{IfSome}
use Rattle.regions.specs.Machine.{state_at}
use Rattle.loose.specs.Classes.{class_in}
use Rattle.loosewalks.specs.declared.active.NamedEntry.{NamedEntry}
use Rattle.loosewalks.specs.LooseWalking.{IsEventStep}
use Rattle.loosewalks.proofs.Walks.{takes_more}
use Rattle.loosewalks.proofs.phase.take_on.Goals as goal

pub loop-init : goal.loop-init
loop-init c = record { code = refl; on = λ limits begun code takes. takes }

pub loop-preserved : goal.loop-preserved
loop-preserved c =
    let class = class_in c.args.classes.now in
    let mid = c.loop.machine in
    let done = c.if-not-branch.false in
    let event = subst (λ (o : Option NamedEntry). IfSome o (IsEventStep class (state_at mid))) c.in-Some.is c.first_active.ensures.event in
    record {
      code = c.take_one.ensures.code ∙ c.loop.invariant.code;
      on = λ limits begun code takes.
          takes_more class limits begun mid c.take_one.new.machine c.loop.way.items c.take_one.new.way.items c.in-Some.named (c.loop.invariant.on limits begun code takes) (c.loop.invariant.code ∙ code) event
          (c.in_ok-take_one.ensures.taken done) (c.in_ok-take_one.ensures.count done) (c.in_ok-take_one.ensures.way done);
    }

pub returns-in-None-clause-on : goal.returns-in-None-clause-on
returns-in-None-clause-on c = λ on. c.loop.invariant.on

pub returns-in-None-clause-over : goal.returns-in-None-clause-over
returns-in-None-clause-over c = λ on. c.first_active.ensures.none c.in-None.is
