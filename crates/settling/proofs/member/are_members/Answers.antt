-- Each is a member.
use Rattle.std.proofs.Common.{◌<◌, length, subst, arith}
use Rattle.std.proofs.lemmas.List.{get_or_default}
use Rattle.regions.specs.Machine.{state_at}
use Rattle.settling.specs.Settling.{IsMember}
use Rattle.settling.proofs.Listed.{all_there, upto_more}
use Rattle.settling.proofs.member.are_members.Goals as goal

pub loop-member-preserved : goal.loop-member-preserved
loop-member-preserved c =
    let m = c.args.machine.now in
    let members = c.args.members.now in
    let i = c.loop-member.member-index in
    let within : i < length members = omega arith in
    upto_more (IsMember m.code (state_at m) c.args.network.now) members i c.loop-member.invariant
    (λ d. subst (IsMember m.code (state_at m) c.args.network.now) (get_or_default members i 0 d within) (c.is_member.ensures c.if-not-is_member.false))

pub returns : goal.returns
returns c = λ on p there.
    all_there (IsMember c.args.machine.now.code (state_at c.args.machine.now) c.args.network.now) c.args.members.now p (λ k d within. c.loop-member.invariant k d (omega (arith, within))) there
