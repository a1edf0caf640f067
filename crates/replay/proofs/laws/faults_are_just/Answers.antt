use Rattle.replay.proofs.Runs.{faults_are_just}
use Rattle.replay.proofs.laws.faults_are_just.Goals as goal

pub returns : goal.returns
returns c = faults_are_just
