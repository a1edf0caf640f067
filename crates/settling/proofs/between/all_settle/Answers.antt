-- Each settles.
use Rattle.std.proofs.Common.{◌<◌, length, subst, arith}
use Rattle.std.proofs.lemmas.List.{get_or_default}
use Rattle.settling.specs.Settled.{HasSettledSince}
use Rattle.settling.proofs.Listed.{all_there, upto_more}
use Rattle.settling.proofs.between.all_settle.Goals as goal

pub loop-member-preserved : goal.loop-member-preserved
loop-member-preserved c =
    let members = c.args.members.now in
    let i = c.loop-member.member-index in
    let within : i < length members = omega arith in
    upto_more (HasSettledSince c.args.begin.now c.args.machine.now c.args.network.now) members i c.loop-member.invariant
    (λ d. subst (HasSettledSince c.args.begin.now c.args.machine.now c.args.network.now) (get_or_default members i 0 d within) (c.in_ok-settles.ensures c.if-not-branch.false))

pub returns : goal.returns
returns c = λ on start ends p there.
    all_there (HasSettledSince c.args.begin.now c.args.machine.now c.args.network.now) c.args.members.now p (λ k d within. c.loop-member.invariant k d (omega (arith, within))) there start c.args.members.now ends there
