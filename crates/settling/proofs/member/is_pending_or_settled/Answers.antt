-- It waits for nothing, or its turn leaves every value.
use Rattle.std.proofs.Common.{◌≡◌, ℕ, Bool, true, not, ap, ◌∙◌}
use Rattle.std.proofs.lemmas.Result.{IfOk-weaker}
use Rattle.design.specs.Compiled.{design_of}
use Rattle.regions.specs.Machine.{state_at}
use Rattle.settling.specs.Settling.{IsPendingOrSettled}
use Rattle.settling.specs.LogicStanding.{IsContinuedAt, HasUnchangingTurn}
use Rattle.settling.proofs.Standings.{pending_so, settled_so}
use Rattle.settling.proofs.member.is_pending_or_settled.Goals as goal

pub returns-then-is_none : goal.returns-then-is_none
returns-then-is_none c = λ on.
    let m = c.args.machine.now in
    pending_so m.code m.core (state_at m) c.args.network.now c.args.process c.in-Some.continuation c.in-Some.ensures (c.is_none.ensures ∙ ap not c.if-is_none.true)

pub returns : goal.returns
returns c =
    let m = c.args.machine.now in
    let p = c.args.process in
    let network = c.args.network.now in
    let at = c.in-Some.ensures in
    IfOk-weaker c.is_consistent.result (λ (b : Bool). b ≡ true → (q : ℕ) → IsContinuedAt m.core q c.in-Some.continuation.state → HasUnchangingTurn (design_of m.code) (state_at m) q)
    (λ (b : Bool). b ≡ true → IsPendingOrSettled m.code (state_at m) network p) (λ b left on. settled_so m.code (state_at m) network p at.member (left on p at.place)) c.is_consistent.ensures
