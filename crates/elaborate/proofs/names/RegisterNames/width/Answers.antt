use Rattle.std.proofs.Common.{◌<◌, length, arith}
use Rattle.elaborate.proofs.Lookups.{width_at}
use Rattle.elaborate.proofs.names.RegisterNames.width.Goals as goal

pub returns-then-place-count-clause-value : goal.returns-then-place-count-clause-value
returns-then-place-count-clause-value c =
    let h : c.place-place.result < length c.args.self.now = omega arith in
    let e = width_at c.args.self.now c.place-place.result h in
    cc
