use Rattle.statekeys.proofs.Alikeness as alikeness
use Rattle.statekeys.proofs.laws.keys_tell_states.Goals as goal

pub returns : goal.returns
returns c = alikeness.keys_tell_states
