-- What a comparison of two parts says.
use Rattle.std.proofs.Common.{rules}
use Rattle.statements.specs.Parts.{same_part}
use Rattle.statements.proofs.part.is_part.Goals as goal

pub returns : goal.returns
unfolding same_part
returns c = search rules
