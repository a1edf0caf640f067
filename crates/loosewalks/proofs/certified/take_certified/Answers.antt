-- One event after another with its note, until none is active.
use Rattle.std.proofs.Common.{◌∙◌, Option, refl, rules, subst}
use Rattle.std.specs.Prelude.{IfSome}
use Rattle.regions.specs.Machine.{state_at}
use Rattle.loose.specs.Classes.{class_in}
use Rattle.loosewalks.specs.declared.active.NamedEntry.{NamedEntry}
use Rattle.loosewalks.specs.LooseWalking.{IsEventStep}
use Rattle.loosewalks.proofs.Certifying.{noted_none, noted_more}
use Rattle.loosewalks.proofs.certified.take_certified.Goals as goal

pub loop-init : goal.loop-init
loop-init c =
    record {
      code = refl;
      noted = λ limits. noted_none (class_in c.args.classes.now) limits c.args.machine.now _ _ (search rules) (search rules);
    }

pub loop-preserved : goal.loop-preserved
loop-preserved c =
    let class = class_in c.args.classes.now in
    let mid = c.loop.machine in
    let room = c.loop.room in
    let new = c.take_certified_one.new.room in
    let event = subst (λ (o : Option NamedEntry). IfSome o (IsEventStep class (state_at mid))) c.in-Some.is c.first_active.ensures.event in
    record {
      code = c.take_certified_one.ensures.code ∙ c.loop.invariant.code;
      noted = λ limits.
          noted_more class limits c.args.machine.now mid c.take_certified_one.new.machine room.certificate new.certificate room.way.items new.way.items c.in-Some.named (c.loop.invariant.noted limits) c.loop.invariant.code event
          (c.in_ok-take_certified_one.ensures.added c.if-not-branch.false);
    }

pub returns-in-None-clause-certified : goal.returns-in-None-clause-certified
returns-in-None-clause-certified c = λ on limits.
    record { notes = c.loop.room.certificate; takes = c.loop.invariant.noted limits; certify = c.certifies.ensures.certified on; over = c.first_active.ensures.none c.in-None.is }
