use Rattle.std.proofs.Common.{string_bytes}
use Rattle.elaborate.proofs.Lookups.{declared_is}
use Rattle.elaborate.proofs.names.RegisterNames.contains.Goals as goal

pub returns : goal.returns
returns c =
    let e = declared_is string_bytes c.args.name.now c.self.inside.names.keys c.self.inside.ranges.items c.self.invariant.paired in
    cc
