-- The observers see the same of alike states, and what is seen of states tells registers.
use Rattle.observers.proofs.SeeingAlike as seeing
use Rattle.observers.proofs.OneWave as wave
use Rattle.observers.proofs.laws.observers_have_their_laws.Goals as goal

pub returns-clause-alike : goal.returns-clause-alike
returns-clause-alike c = seeing.observers_see_alike

pub returns-clause-registers : goal.returns-clause-registers
returns-clause-registers c = wave.one_sight_tells_registers
