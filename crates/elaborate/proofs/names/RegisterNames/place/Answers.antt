use Rattle.std.proofs.Common.{string_bytes}
use Rattle.std.specs.Str.{bytes_eq}
use Rattle.elaborate.proofs.Lookups.{number_is, place_is}
use Rattle.elaborate.proofs.names.RegisterNames.place.Goals as goal

pub returns-clause-number : goal.returns-clause-number
returns-clause-number c =
    let e = number_is string_bytes c.args.name.now c.self.inside.names.keys c.self.inside.ranges.items c.self.invariant.paired in
    let p = place_is (λ k. bytes_eq c.args.name.now (string_bytes k)) c.self.inside.names.keys in
    cc
