-- One event of others after another with its note, until none is active.
use Rattle.std.proofs.Common.{◌∙◌, Option, refl, subst}
use Rattle.std.specs.Prelude.{IfSome}
use Rattle.model.specs.Turns.{contains}
use Rattle.regions.specs.Machine.{state_at}
use Rattle.loose.specs.Classes.{class_in}
use Rattle.noted.specs.NotedSteps.{IsOfOther}
use Rattle.loosewalks.specs.declared.active.NamedEntry.{NamedEntry}
use Rattle.loosewalks.specs.LooseWalking.{IsEventStep}
use Rattle.loosewalks.proofs.Holding.{others_none, others_more}
use Rattle.loosewalks.proofs.held.take_others.Goals as goal

pub loop-init : goal.loop-init
loop-init c =
    record {
      code = refl;
      others = λ limits. others_none (class_in c.args.classes.now) limits c.args.held.now c.args.machine.now c.clear-2.new.self c.clear.new.self.items c.clear-2.ensures c.clear.ensures.items;
    }

pub take_other-requires : goal.take_other-requires
take_other-requires c =
    subst (λ (o : Option NamedEntry). IfSome o (λ named. IsOfOther (contains c.args.held.now) (state_at c.loop.machine) named.entry)) c.in-Some.is c.first_other.ensures.other

pub loop-preserved : goal.loop-preserved
loop-preserved c =
    let class = class_in c.args.classes.now in
    let held = c.args.held.now in
    let mid = c.loop.machine in
    let room = c.loop.room in
    let new = c.take_other.new.room in
    let event = subst (λ (o : Option NamedEntry). IfSome o (IsEventStep class (state_at mid))) c.in-Some.is c.first_other.ensures.event in
    record {
      code = c.take_other.ensures.code ∙ c.loop.invariant.code;
      others = λ limits.
          others_more class limits held c.args.machine.now mid c.take_other.new.machine room.certificate new.certificate room.way.items new.way.items c.in-Some.named (c.loop.invariant.others limits) c.loop.invariant.code event
          (c.in_ok-take_other.ensures.added c.if-not-branch.false);
    }

pub returns-in-None-clause-taken : goal.returns-in-None-clause-taken
returns-in-None-clause-taken c = λ on limits. record { others = c.loop.invariant.others limits; certify = c.certifies.ensures.certified on; over = c.first_other.ensures.none c.in-None.is }
