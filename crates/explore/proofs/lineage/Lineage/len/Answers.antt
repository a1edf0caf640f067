use Rattle.std.proofs.Common.{arith}
use Rattle.explore.specs.Pieces.{pieces}
use Rattle.explore.proofs.Steps.{length-gone}
use Rattle.explore.proofs.lineage.Lineage.len.Goals as goal

pub returns : goal.returns
returns g c = omega (arith, c.len.ensures, length-gone (pieces c.args.self.now.steps))
