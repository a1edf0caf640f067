-- A walk begins where its machine stands, and goes on from there.
use Rattle.std.proofs.Common.{◌≡◌, List, refl, subst, sym}
use Rattle.design.specs.Compiled.{Compiled}
use Rattle.combinational.specs.Found.{IsNetworkOf}
use Rattle.regions.specs.Machine.{state_at}
use Rattle.loose.specs.declared.transition.LooseTransition.{LooseTransition}
use Rattle.loose.specs.Classes.{class_in}
use Rattle.looseruns.specs.ObservedMoves.{PassesTimeFirst}
use Rattle.loosewalks.specs.declared.rules.WalkStops.TheVariants.{AtTime}
use Rattle.loosewalks.specs.LooseWalking.{HasCountedMoves, HasWalkedLoosely}
use Rattle.loosewalks.specs.Checkpoints.{IsWalk, moves_of}
use Rattle.loosewalks.proofs.Walks.{counts_begin, walk_begins}
use Rattle.loosewalks.proofs.GoingOn.{moves_told, none_there}
use Rattle.loosewalks.proofs.walk.walk_loosely.Goals as goal

pub go_far-requires : goal.go_far-requires
go_far-requires c =
    record {
      network = subst (λ (k : Compiled). IsNetworkOf k c.network.result.now) (sym c.requires.code) c.network.ensures;
      code = record { here = refl; there = none_there c.new-walk.result.checkpoint _ c.new-walk.ensures.none };
    }

pub returns-clause-walked : goal.returns-clause-walked
returns-clause-walked c =
    let class = class_in c.args.rules.classes.now in
    let limits = c.args.rules.limits in
    let m = c.args.machine.now in
    let s = state_at m in
    let walk = c.new-walk.result in
    let begun : IsWalk class limits s m.core.entries m walk =
    record {
      here = record { walked = walk_begins class limits m (moves_of walk) c.new-walk.ensures.moves c.requires.silent c.requires.reached.order; counted = counts_begin limits m (moves_of walk) c.new-walk.ensures.moves };
      there = none_there walk.checkpoint _ c.new-walk.ensures.none;
    } in
    let gone : IsWalk class limits s m.core.entries c.go_far.new.machine c.go_far.new.walk = c.in_ok-go_far.ensures.on s m.core.entries c.requires.reached begun in
    moves_told c.into_moves.result _ (HasWalkedLoosely class limits s c.go_far.new.machine) c.into_moves.ensures gone.here.walked

pub returns-clause-counted : goal.returns-clause-counted
returns-clause-counted c =
    let class = class_in c.args.rules.classes.now in
    let limits = c.args.rules.limits in
    let m = c.args.machine.now in
    let s = state_at m in
    let walk = c.new-walk.result in
    let begun : IsWalk class limits s m.core.entries m walk =
    record {
      here = record { walked = walk_begins class limits m (moves_of walk) c.new-walk.ensures.moves c.requires.silent c.requires.reached.order; counted = counts_begin limits m (moves_of walk) c.new-walk.ensures.moves };
      there = none_there walk.checkpoint _ c.new-walk.ensures.none;
    } in
    let gone : IsWalk class limits s m.core.entries c.go_far.new.machine c.go_far.new.walk = c.in_ok-go_far.ensures.on s m.core.entries c.requires.reached begun in
    moves_told c.into_moves.result _ (HasCountedMoves limits m.core.entries c.go_far.new.machine) c.into_moves.ensures gone.here.counted

pub returns-clause-time : goal.returns-clause-time
returns-clause-time c =
    moves_told c.into_moves.result _ (λ (l : List LooseTransition). c.args.rules.stops ≡ AtTime → PassesTimeFirst l) c.into_moves.ensures
    (λ at_time. c.in_ok-go_far.ensures.time at_time (subst PassesTimeFirst (sym c.new-walk.ensures.moves) tt))

pub returns-clause-code : goal.returns-clause-code
returns-clause-code c = c.go_far.ensures.code.here

pub returns-in_err-go_far-clause-code : goal.returns-in_err-go_far-clause-code
returns-in_err-go_far-clause-code c = c.go_far.ensures.code.here
