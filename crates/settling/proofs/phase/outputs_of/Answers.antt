-- The outputs of one process more.
use Rattle.std.proofs.Common.{rules, ◌<◌, length, get_or, arith}
use Rattle.std.proofs.lemmas.List.{get_or_default}
use Rattle.settling.proofs.Listed.{HasOutputsOf, outputs_more, all_there}
use Rattle.settling.proofs.phase.outputs_of.Goals as goal

pub loop-member-preserved : goal.loop-member-preserved
loop-member-preserved c =
    let members = c.args.members.now in
    let i = c.loop-member.member-index in
    let within : i < length members = omega arith in
    outputs_more c.args.network.now.logics.items members i (get_or members i 0) c.loop-member.registers.items c.extend_from_slice.new.self.items c.outputs_at.result.now within (get_or_default members i 0 (get_or members i 0) within) (search rules) c.outputs_at.ensures c.loop-member.invariant

pub returns : goal.returns
returns c = λ p r logic there found out.
    all_there (HasOutputsOf c.args.network.now.logics.items c.loop-member.registers.items) c.args.members.now p (λ k d within. c.loop-member.invariant k d (omega (arith, within))) there r logic found out
