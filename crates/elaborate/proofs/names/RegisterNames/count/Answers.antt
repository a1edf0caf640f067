use Rattle.std.proofs.Common.{map, string_bytes}
use Rattle.elaborate.proofs.Lookups.{same_length}
use Rattle.elaborate.proofs.names.RegisterNames.count.Goals as goal

pub returns-clause-value : goal.returns-clause-value
returns-clause-value c =
    let e = same_length (map string_bytes c.self.inside.names.keys) c.self.inside.ranges.items c.self.invariant.paired in
    cc
