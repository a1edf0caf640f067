-- A token at the front, or behind it.
use Rattle.std.proofs.Common.{arith}
use Rattle.diagnosis.specs.FaultLocations.{wants}
use Rattle.diagnosis.proofs.Tellings.{front_found, front_later}
use Rattle.diagnosis.proofs.wanted.find.Goals as goal

pub returns-then-to_pass-eq0 : goal.returns-then-to_pass-eq0
returns-then-to_pass-eq0 c =
    c.loop-left.invariant _ (front_found (wants c.args.wanted) c.loop-left.left.now _ (omega (arith, c.in-len1-up.len_at_least)) (c.is_wanted.ensures c.if-is_wanted.true))

pub loop-left-preserved : goal.loop-left-preserved
loop-left-preserved c = λ byte h. c.loop-left.invariant byte (front_later (wants c.args.wanted) c.loop-left.left.now byte (omega (arith, c.in-len1-up.len_at_least)) h)
