-- Each way stands for all where it may be tried.
use Rattle.std.proofs.Common.{subst}
use Rattle.loose.specs.Classes.{class_in}
use Rattle.loosewalks.specs.Attempts.{IsFit}
use Rattle.loosewalks.proofs.Walks.{phase_sole}
use Rattle.loosewalks.proofs.Certifying.{certified_sole}
use Rattle.loosewalks.proofs.Holding.{held_sole, settled_before, settled_sole}
use Rattle.loosewalks.proofs.GoingOn.{all_ok}
use Rattle.loosewalks.proofs.PassingFirst.{certified_actors, held_actors, phase_actors, settled_actors}
use Rattle.loosewalks.proofs.way_through.take_way.Goals as goal

pub returns-in-Phase-clause-sole : goal.returns-in-Phase-clause-sole
returns-in-Phase-clause-sole c =
    let scope = c.args.scope in
    let old = c.args.machine.now in
    let fit = subst (λ way. IsFit way old scope.network.now c.args.members.now) c.in-Phase.is c.requires.fit in
    all_ok c.take_phase.result _ _ (λ passed. phase_sole (class_in scope.rules.classes.now) scope.rules.limits old c.take_phase.new.machine c.take_phase.new.way.items scope.network.now c.args.members.now fit c.requires.active (passed scope.rules.limits)) c.take_phase.ensures.passed

pub returns-in-Certified-clause-sole : goal.returns-in-Certified-clause-sole
returns-in-Certified-clause-sole c =
    let scope = c.args.scope in
    all_ok c.take_certified.result _ _ (λ certified. certified_sole (class_in scope.rules.classes.now) scope.rules.limits c.args.machine.now c.take_certified.new.machine c.take_certified.new.room.way.items c.requires.active (certified scope.rules.limits)) c.take_certified.ensures.certified

pub returns-in-HeldSettled-clause-sole : goal.returns-in-HeldSettled-clause-sole
returns-in-HeldSettled-clause-sole c =
    let scope = c.args.scope in
    let old = c.args.machine.now in
    let new = c.take_held.new.machine in
    let network = scope.network.now in
    let held = c.args.members.now in
    let (may, settled) = subst (λ way. IsFit way old network held) c.in-HeldSettled.is c.requires.fit in
    all_ok c.take_held.result _ _
    (λ done. held_sole old new network held (class_in scope.rules.classes.now) scope.rules.limits c.take_held.new.room.way.items (done scope.rules.limits may) c.requires.active (λ time. settled_before old new network held settled))
    c.take_held.ensures.done

pub returns-in-Held-clause-sole : goal.returns-in-Held-clause-sole
returns-in-Held-clause-sole c =
    let scope = c.args.scope in
    let old = c.args.machine.now in
    let may = subst (λ way. IsFit way old scope.network.now c.args.members.now) c.in-Held.is c.requires.fit in
    all_ok c.take_held_until_settled.result _ _
    (λ done. settled_sole old c.take_held_until_settled.new.machine scope.network.now c.args.members.now (class_in scope.rules.classes.now) scope.rules.limits c.take_held_until_settled.new.room.way.items (done scope.rules.limits may) c.requires.active)
    c.take_held_until_settled.ensures.done

pub returns-in-HeldRest-clause-sole : goal.returns-in-HeldRest-clause-sole
returns-in-HeldRest-clause-sole c =
    let scope = c.args.scope in
    let old = c.args.machine.now in
    let may = subst (λ way. IsFit way old scope.network.now c.args.members.now) c.in-HeldRest.is c.requires.fit in
    all_ok c.take_held_until_settled-in-HeldRest.result _ _
    (λ done. settled_sole old c.take_held_until_settled-in-HeldRest.new.machine scope.network.now c.args.members.now (class_in scope.rules.classes.now) scope.rules.limits c.take_held_until_settled-in-HeldRest.new.room.way.items (done scope.rules.limits may) c.requires.active)
    c.take_held_until_settled-in-HeldRest.ensures.done

pub returns-in-HeldAsleep-clause-sole : goal.returns-in-HeldAsleep-clause-sole
returns-in-HeldAsleep-clause-sole c =
    let scope = c.args.scope in
    let old = c.args.machine.now in
    let may = subst (λ way. IsFit way old scope.network.now c.args.members.now) c.in-HeldAsleep.is c.requires.fit in
    all_ok c.take_held_until_settled-in-HeldAsleep.result _ _
    (λ done. settled_sole old c.take_held_until_settled-in-HeldAsleep.new.machine scope.network.now c.args.members.now (class_in scope.rules.classes.now) scope.rules.limits c.take_held_until_settled-in-HeldAsleep.new.room.way.items (done scope.rules.limits may) c.requires.active)
    c.take_held_until_settled-in-HeldAsleep.ensures.done

pub returns-in-Phase-clause-actors : goal.returns-in-Phase-clause-actors
returns-in-Phase-clause-actors c =
    let rules = c.args.scope.rules in
    all_ok c.take_phase.result _ _ (λ passed. phase_actors (class_in rules.classes.now) rules.limits c.args.machine.now c.take_phase.new.machine c.args.scope.network.now c.args.members.now c.take_phase.new.way.items (passed rules.limits)) c.take_phase.ensures.passed

pub returns-in-Certified-clause-actors : goal.returns-in-Certified-clause-actors
returns-in-Certified-clause-actors c =
    let rules = c.args.scope.rules in
    all_ok c.take_certified.result _ _ (λ certified. certified_actors (class_in rules.classes.now) rules.limits c.args.machine.now c.take_certified.new.machine c.take_certified.new.room.way.items (certified rules.limits)) c.take_certified.ensures.certified

pub returns-in-HeldSettled-clause-actors : goal.returns-in-HeldSettled-clause-actors
returns-in-HeldSettled-clause-actors c =
    let scope = c.args.scope in
    let old = c.args.machine.now in
    let held = c.args.members.now in
    let (may, settled) = subst (λ way. IsFit way old scope.network.now held) c.in-HeldSettled.is c.requires.fit in
    all_ok c.take_held.result _ _ (λ done. held_actors (class_in scope.rules.classes.now) scope.rules.limits old c.take_held.new.machine scope.network.now held c.take_held.new.room.way.items (done scope.rules.limits may)) c.take_held.ensures.done

pub returns-in-Held-clause-actors : goal.returns-in-Held-clause-actors
returns-in-Held-clause-actors c =
    let scope = c.args.scope in
    let old = c.args.machine.now in
    let held = c.args.members.now in
    let may = subst (λ way. IsFit way old scope.network.now held) c.in-Held.is c.requires.fit in
    all_ok c.take_held_until_settled.result _ _
    (λ done. settled_actors (class_in scope.rules.classes.now) scope.rules.limits old c.take_held_until_settled.new.machine scope.network.now held c.take_held_until_settled.new.room.way.items (done scope.rules.limits may)) c.take_held_until_settled.ensures.done

pub returns-in-HeldRest-clause-actors : goal.returns-in-HeldRest-clause-actors
returns-in-HeldRest-clause-actors c =
    let scope = c.args.scope in
    let old = c.args.machine.now in
    let held = c.args.members.now in
    let may = subst (λ way. IsFit way old scope.network.now held) c.in-HeldRest.is c.requires.fit in
    all_ok c.take_held_until_settled-in-HeldRest.result _ _
    (λ done. settled_actors (class_in scope.rules.classes.now) scope.rules.limits old c.take_held_until_settled-in-HeldRest.new.machine scope.network.now held c.take_held_until_settled-in-HeldRest.new.room.way.items (done scope.rules.limits may)) c.take_held_until_settled-in-HeldRest.ensures.done

pub returns-in-HeldAsleep-clause-actors : goal.returns-in-HeldAsleep-clause-actors
returns-in-HeldAsleep-clause-actors c =
    let scope = c.args.scope in
    let old = c.args.machine.now in
    let held = c.args.members.now in
    let may = subst (λ way. IsFit way old scope.network.now held) c.in-HeldAsleep.is c.requires.fit in
    all_ok c.take_held_until_settled-in-HeldAsleep.result _ _
    (λ done. settled_actors (class_in scope.rules.classes.now) scope.rules.limits old c.take_held_until_settled-in-HeldAsleep.new.machine scope.network.now held c.take_held_until_settled-in-HeldAsleep.new.room.way.items (done scope.rules.limits may)) c.take_held_until_settled-in-HeldAsleep.ensures.done
