use Rattle.waves.proofs.Rising.{advances_rise}
use Rattle.waves.proofs.laws.advances_rise.Goals as goal

pub returns : goal.returns
returns c = advances_rise
