-- What was taken, and what is held settles.
use Rattle.std.proofs.Common.{sym, subst}
use Rattle.design.specs.Compiled.{Compiled}
use Rattle.combinational.specs.Found.{IsNetworkOf}
use Rattle.loose.specs.Classes.{class_in}
use Rattle.loosewalks.specs.Held.{HasHeld}
use Rattle.loosewalks.proofs.GoingOn.{held_rests}
use Rattle.loosewalks.proofs.held.settle_from.Goals as goal

pub settle_since-requires : goal.settle_since-requires
settle_since-requires c =
    record { found = subst (λ (k : Compiled). IsNetworkOf k c.args.holding.scope.network.now) (sym c.take_from.ensures.code) c.requires.network }

pub members_settled_since-requires : goal.members_settled_since-requires
members_settled_since-requires c =
    record { found = subst (λ (k : Compiled). IsNetworkOf k c.args.holding.scope.network.now) (sym c.take_from.ensures.code) c.requires.network }

pub returns-then-branch-clause-done : goal.returns-then-branch-clause-done
returns-then-branch-clause-done c = λ on limits may.
    let old = c.args.machine.now in
    let network = c.args.holding.scope.network.now in
    let held = c.args.holding.held.now in
    let through : HasHeld (class_in c.args.holding.scope.rules.classes.now) limits old network held c.take_from.new.room.way.items c.take_from.new.machine =
    c.in_ok-take_from.ensures.done c.if-not-branch.false limits may in
    record {
      through = through;
      settle = λ time.
          c.in_ok-settle_since.ensures c.if-branch.true old (held_rests c.args.start.now.begin old c.take_from.new.machine network held c.requires.start.begins may (sym c.take_from.ensures.code) time through.passed.over);
    }
