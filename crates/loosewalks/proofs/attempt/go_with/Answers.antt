-- The way was kept, or the machine went back.
use Rattle.std.proofs.Common.{◌++◌, List, sym, subst}
use Rattle.loose.specs.declared.transition.LooseTransition.{LooseTransition}
use Rattle.loose.specs.Classes.{class_in}
use Rattle.looseruns.specs.ObservedMoves.{PassesTimeFirst}
use Rattle.loosewalks.specs.EventWays.{AreOfActors}
use Rattle.loosewalks.specs.LooseWalking.{IsSoleLooseWay}
use Rattle.loosewalks.specs.Checkpoints.{HasTakenAgain, moves_of}
use Rattle.loosewalks.proofs.GoingOn.{goes_back, goes_by, longer}
use Rattle.loosewalks.proofs.PassingFirst.{actors_stay, passes_on}
use Rattle.loosewalks.proofs.attempt.go_with.Goals as goal

pub returns-then-is_kept-clause-on : goal.returns-then-is_kept-clause-on
returns-then-is_kept-clause-on c =
    let class = class_in c.args.scope.rules.classes.now in
    let limits = c.args.scope.rules.limits in
    let before = c.args.walk.now in
    let mid = c.take_checkpoint.new.self in
    let way = c.deref.result.now in
    goes_by class limits c.args.machine.now c.take_way.new.machine before _ way
    (subst (λ (l : List LooseTransition). IsSoleLooseWay class limits c.args.machine.now l c.take_way.new.machine) (sym c.deref.ensures.value) (c.in_ok-all.ensures.sole (c.is_kept.ensures.all c.if-is_kept.true)))
    c.take_way.ensures.code
    (longer mid.moves.items mid.since.items _ way _ c.in_ok-extend_from_slice.ensures.items c.in_ok-checkpoint.ensures.moves)
    (λ less. c.is_kept.ensures.few c.if-is_kept.true)
    (λ s begun is. c.in_ok-checkpoint.ensures.come class limits s begun is)

pub returns-clause-on : goal.returns-clause-on
returns-clause-on c =
    let class = class_in c.args.scope.rules.classes.now in
    let limits = c.args.scope.rules.limits in
    goes_back class limits c.args.machine.now c.roll_back.new.machine c.in_ok-checkpoint.checkpoint.value c.args.walk.now c.take_checkpoint.new.self (c.in_ok-checkpoint.ensures.code _ c.requires.code) c.in_ok-checkpoint.ensures.moves c.take_checkpoint.ensures.none c.in_ok-checkpoint.ensures.come
    (subst (λ (l : List LooseTransition). HasTakenAgain class c.in_ok-checkpoint.checkpoint.value l c.roll_back.new.machine) c.deref-2.ensures.value c.in_ok-roll_back.ensures.again)

pub returns-then-is_kept-clause-time : goal.returns-then-is_kept-clause-time
returns-then-is_kept-clause-time c = λ first.
    let mid = c.take_checkpoint.new.self in
    let way = c.deref.result.now in
    let actors : AreOfActors way = subst AreOfActors (sym c.deref.ensures.value) (c.in_ok-all.ensures.actors (c.is_kept.ensures.all c.if-is_kept.true)) in
    passes_on (moves_of c.args.walk.now) way (mid.moves.items ++ c.extend_from_slice.new.self.items) (longer mid.moves.items mid.since.items _ way _ c.in_ok-extend_from_slice.ensures.items c.in_ok-checkpoint.ensures.moves) (actors_stay way actors) first

pub returns-clause-time : goal.returns-clause-time
returns-clause-time c = λ first. subst PassesTimeFirst (sym c.in_ok-checkpoint.ensures.moves) first
