-- No evaluation is of another process.
use Rattle.std.proofs.Common.{arith}
use Rattle.settling.proofs.Listed.{no_stranger}
use Rattle.settling.proofs.member.are_inside.Goals as goal

pub returns : goal.returns
returns c = λ on p none.
    no_stranger c.args.members.now c.args.evaluations.now.items p (λ k d within. c.loop-at.invariant k d (omega (arith, within, c.loop-at-test.false, c.len-at-end.ensures, c.args.evaluations.now.ok.0))) none
