-- A walk goes on once more.
use Rattle.std.proofs.Common.{subst, sym}
use Rattle.design.specs.Compiled.{Compiled}
use Rattle.combinational.specs.Found.{IsNetworkOf}
use Rattle.loose.specs.Classes.{class_in}
use Rattle.loosewalks.proofs.GoingOn.{goes_both, of_one_code, of_own_code}
use Rattle.loosewalks.proofs.walk.go_far.Goals as goal

pub loop-init : goal.loop-init
loop-init c = record { code = c.requires.code; on = λ s begun like is. is; time = λ at_time first. first }

pub go_on-requires : goal.go_on-requires
go_on-requires c =
    record {
      network = subst (λ (k : Compiled). IsNetworkOf k c.args.scope.network.now) (sym c.loop.invariant.code.here) c.requires.network;
      code = of_own_code _ c.loop.machine c.loop.walk c.loop.invariant.code;
    }

pub loop-preserved : goal.loop-preserved
loop-preserved c =
    record {
      code = of_one_code _ c.loop.machine c.go_on.new.machine c.go_on.new.walk c.loop.invariant.code.here c.go_on.ensures.code;
      on = goes_both (class_in c.args.scope.rules.classes.now) c.args.scope.rules.limits c.args.machine.now c.loop.machine c.go_on.new.machine c.args.walk.now c.loop.walk c.go_on.new.walk c.loop.invariant.on c.loop.invariant.code.here c.in_ok-go_on.ensures.on;
      time = λ at_time first. c.in_ok-go_on.ensures.time at_time (c.loop.invariant.time at_time first);
    }

pub returns-then-not-branch-clause-on : goal.returns-then-not-branch-clause-on
returns-then-not-branch-clause-on c =
    goes_both (class_in c.args.scope.rules.classes.now) c.args.scope.rules.limits c.args.machine.now c.loop.machine c.go_on.new.machine c.args.walk.now c.loop.walk c.go_on.new.walk c.loop.invariant.on c.loop.invariant.code.here c.in_ok-go_on.ensures.on

pub returns-then-not-branch-clause-time : goal.returns-then-not-branch-clause-time
returns-then-not-branch-clause-time c = λ at_time first. c.in_ok-go_on.ensures.time at_time (c.loop.invariant.time at_time first)

pub returns-then-not-branch-clause-code : goal.returns-then-not-branch-clause-code
returns-then-not-branch-clause-code c = of_one_code _ c.loop.machine c.go_on.new.machine c.go_on.new.walk c.loop.invariant.code.here c.go_on.ensures.code

pub returns-in_err-go_on-clause-code : goal.returns-in_err-go_on-clause-code
returns-in_err-go_on-clause-code c = of_one_code _ c.loop.machine c.go_on.new.machine c.go_on.new.walk c.loop.invariant.code.here c.go_on.ensures.code
