-- A walk goes on by the only entry, or by one of the ways.
use Rattle.std.proofs.Common.{◌≡◌, ◌≢◌, true, ◌++◌, ◌∷◌, [], refl, sym, subst}
use Rattle.design.specs.Compiled.{Compiled}
use Rattle.combinational.specs.Found.{IsNetworkOf}
use Rattle.loose.specs.Classes.{class_in}
use Rattle.looseruns.specs.ObservedMoves.{StaysInTime}
use Rattle.loosewalks.specs.LooseWalking.{HasStepped}
use Rattle.loosewalks.specs.Checkpoints.{moves_of}
use Rattle.loosewalks.proofs.GoingOn.{found_there, goes_both, goes_by, goes_nowhere, longer, of_one_code, of_own_code, same_code}
use Rattle.loosewalks.proofs.PassingFirst.{passes_one}
use Rattle.loosewalks.proofs.walk.go_on.Goals as goal

pub returns-in-Some-clause-on : goal.returns-in-Some-clause-on
returns-in-Some-clause-on c =
    let class = class_in c.args.scope.rules.classes.now in
    let limits = c.args.scope.rules.limits in
    let old = c.args.machine.now in
    let new = c.step.new.machine in
    let walk = c.args.walk.now in
    let way = c.in-Some.transition ∷ [] in
    let stepped = found_there _ c.in-Some.transition (λ transition. HasStepped class limits old transition new) c.in-Some.is c.in_ok-transition.ensures.stepped in
    goes_by class limits old new walk _ way stepped.way c.step.ensures.code (longer walk.moves.items walk.since.items _ way _ c.in_ok-push-in-Some.ensures.items refl) (λ less. stepped.few) (λ s begun is. is.there)

pub returns-in-Some-clause-time : goal.returns-in-Some-clause-time
returns-in-Some-clause-time c = λ at_time first.
    let walk = c.args.walk.now in
    let transition = c.in-Some.transition in
    let before = moves_of walk in
    let stays : before ≢ [] → StaysInTime transition = λ some. found_there _ transition (λ t. c.stops_at_time-time_stays.result ≡ true → StaysInTime t) c.in-Some.is c.in_ok-transition.ensures.time (c.stops_at_time-time_stays.ensures at_time some) in
    passes_one before (walk.moves.items ++ c.push.new.self.items) transition (longer walk.moves.items walk.since.items _ (transition ∷ []) _ c.in_ok-push-in-Some.ensures.items refl) stays first

pub loop-way-init : goal.loop-way-init
loop-way-init c =
    let mid = c.step.new.machine in
    record {
      code = same_code c.args.machine.now mid c.args.walk.now c.step.ensures.code c.requires.code;
      on = goes_nowhere (class_in c.args.scope.rules.classes.now) c.args.scope.rules.limits c.args.machine.now mid c.args.walk.now mid.made (c.in_ok-transition.ensures.stays c.in-None.is);
      time = λ first. first;
    }

pub go_by-requires : goal.go_by-requires
go_by-requires c =
    record {
      network = subst (λ (k : Compiled). IsNetworkOf k c.args.scope.network.now) (sym c.loop-way.invariant.code.here) c.requires.network;
      code = of_own_code _ c.loop-way.machine c.loop-way.walk c.loop-way.invariant.code;
    }

pub returns-then-branch-clause-on : goal.returns-then-branch-clause-on
returns-then-branch-clause-on c =
    goes_both (class_in c.args.scope.rules.classes.now) c.args.scope.rules.limits c.args.machine.now c.loop-way.machine c.go_by.new.machine c.args.walk.now c.loop-way.walk c.go_by.new.walk c.loop-way.invariant.on c.loop-way.invariant.code.here c.in_ok-go_by.ensures.on

pub returns-then-branch-clause-time : goal.returns-then-branch-clause-time
returns-then-branch-clause-time c = λ at_time first. c.in_ok-go_by.ensures.time (c.loop-way.invariant.time first)

pub returns-then-branch-clause-code : goal.returns-then-branch-clause-code
returns-then-branch-clause-code c = of_one_code _ c.loop-way.machine c.go_by.new.machine c.go_by.new.walk c.loop-way.invariant.code.here c.go_by.ensures.code

pub loop-way-preserved : goal.loop-way-preserved
loop-way-preserved c =
    record {
      code = of_one_code _ c.loop-way.machine c.go_by.new.machine c.go_by.new.walk c.loop-way.invariant.code.here c.go_by.ensures.code;
      on = goes_both (class_in c.args.scope.rules.classes.now) c.args.scope.rules.limits c.args.machine.now c.loop-way.machine c.go_by.new.machine c.args.walk.now c.loop-way.walk c.go_by.new.walk c.loop-way.invariant.on c.loop-way.invariant.code.here c.in_ok-go_by.ensures.on;
      time = λ first. c.in_ok-go_by.ensures.time (c.loop-way.invariant.time first);
    }
