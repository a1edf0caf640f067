-- A place was found.
use Rattle.std.proofs.Common.{sym, ◌∙◌}
use Rattle.regions.specs.Machine.{state_at}
use Rattle.settling.proofs.Standings.{some_member}
use Rattle.settling.proofs.member.is_member.Goals as goal

pub returns : goal.returns
returns c = λ on.
    let m = c.args.machine.now in
    some_member m.code m.core (state_at m) c.args.network.now c.args.process c.member_at.result (sym c.is_some.ensures ∙ on) c.member_at.ensures
