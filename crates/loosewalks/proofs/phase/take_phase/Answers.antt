-- What was passed through, and the members settle.
use Rattle.std.proofs.Common.{◌≡◌, Bool, true, sym, subst}
use Rattle.std.proofs.lemmas.Result.{IfOk-weaker}
use Rattle.design.specs.Compiled.{Compiled}
use Rattle.model.specs.declared.end.Limits.{Limits}
use Rattle.combinational.specs.Found.{IsNetworkOf}
use Rattle.settling.specs.Settled.{HaveSettledSince}
use Rattle.loose.specs.Classes.{class_in}
use Rattle.loosewalks.specs.LooseWalking.{HasPassedBy, HasPassedPhase}
use Rattle.loosewalks.proofs.GoingOn.{phase_rests}
use Rattle.loosewalks.proofs.phase.take_phase.Goals as goal

pub settle_since-requires : goal.settle_since-requires
settle_since-requires c =
    record { found = subst (λ (k : Compiled). IsNetworkOf k c.args.scope.network.now) (sym c.take_active.ensures.code) c.requires }

pub returns-clause-passed : goal.returns-clause-passed
returns-clause-passed c =
    let class = class_in c.args.scope.rules.classes.now in
    let old = c.args.machine.now in
    let new = c.take_active.new.machine in
    let network = c.args.scope.network.now in
    let members = c.args.members.now in
    let way = c.take_active.new.way.items in
    IfOk-weaker c.settle_since.result (λ (b : Bool). b ≡ true → HaveSettledSince c.in_ok-begin.begin new network members) (λ (b : Bool). b ≡ true → (limits : Limits) → HasPassedPhase class limits old network members way new)
    (λ b settled on limits.
    let passed : HasPassedBy class limits old way new = c.in_ok-take_active.ensures.passed c.if-not-branch.false limits in
    record {
      passed = passed;
      settle = λ phase time. settled on old (phase_rests c.in_ok-begin.begin old new network members c.in_ok-begin.ensures phase (sym c.take_active.ensures.code) time passed.over);
    })
    c.settle_since.ensures
