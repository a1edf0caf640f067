-- The first run stands at its start, and its design is the one that was given.
use Rattle.std.proofs.Common.{subst}
use Rattle.std.specs.Prelude.{IfErr}
use Rattle.design.specs.Compiled.{Compiled}
use Rattle.differences.specs.CompareFaults.{IsCompareFaultOf}
use Rattle.differences.proofs.Follow.{followed_none}
use Rattle.differences.proofs.following.differing_values.Goals as goal

pub follow_beside-rows-requires-clause-one : goal.follow_beside-rows-requires-clause-one
follow_beside-rows-requires-clause-one c =
    followed_none c.args.first.now c.args.times.now c.in-Ok.one (c.in-Ok.ensures.followed c.args.first.now) c.in-Ok.ensures.entries

pub returns-clause-fault : goal.returns-clause-fault
returns-clause-fault c =
    subst (λ (code : Compiled). IfErr c.follow_beside-rows.result (IsCompareFaultOf code c.args.first.now c.args.second.now)) c.in-Ok.ensures.code c.follow_beside-rows.ensures.fault
