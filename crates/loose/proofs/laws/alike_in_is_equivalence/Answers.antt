-- Likeness in classes is an equivalence, and alike states are so.
use Rattle.loose.proofs.ClassStates as states
use Rattle.loose.proofs.laws.alike_in_is_equivalence.Goals as goal

pub returns-clause-equivalence : goal.returns-clause-equivalence
returns-clause-equivalence c = states.alike_in_is_equivalence

pub returns-clause-alike : goal.returns-clause-alike
returns-clause-alike c = states.alike_is_alike_in

pub returns-clause-one_class : goal.returns-clause-one_class
returns-clause-one_class c = states.one_class_is_alike
