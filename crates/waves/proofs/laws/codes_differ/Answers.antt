use Rattle.waves.proofs.CodeLaws.{codes_differ}
use Rattle.waves.proofs.laws.codes_differ.Goals as goal

pub returns : goal.returns
returns c = codes_differ
