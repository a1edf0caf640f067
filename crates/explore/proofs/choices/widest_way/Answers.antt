use Rattle.std.proofs.Common.{arith}
use Rattle.explore.proofs.choices.widest_way.Goals as goal

pub returns-in-Ok : goal.returns-in-Ok
returns-in-Ok g c =
    let far = c.if-number-len.false in
    let long = c.len.ensures in
    (c.in-Some.number, omega (arith, far, long), c.in-Ok.ensures)
