use Rattle.std.proofs.Common.{arith}
use Rattle.regions.proofs.Sets.{has-inserted}
use Rattle.regions.proofs.waiters.SlotSet.insert.Goals as goal

pub returns : goal.returns
returns c = λ p. has-inserted c.args.self.now.words c.args.slot p (omega (arith, c.requires, c.well_formed))
