use Rattle.statekeys.proofs.ClassKeys as class_keys
use Rattle.statekeys.proofs.laws.class_keys_tell_states.Goals as goal

pub returns : goal.returns
returns c = class_keys.class_keys_tell_states
