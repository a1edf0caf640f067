use Rattle.std.proofs.Common.{refl}
use Rattle.lowering.proofs.flat.flat_process.Goals as goal

pub returns : goal.returns
returns c = let made = c.in_ok-body.ensures in (made.0, made.1, (refl, made.2))
