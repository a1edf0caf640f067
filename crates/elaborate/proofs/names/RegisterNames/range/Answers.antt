use Rattle.elaborate.proofs.Lookups.{range_is}
use Rattle.elaborate.proofs.names.RegisterNames.range.Goals as goal

pub returns-clause-value : goal.returns-clause-value
returns-clause-value c = let e = range_is c.args.self.now c.args.name.now in cc
