-- The scope around one has a smaller number.
use Rattle.constant_functions.proofs.functions.+instance_around.Given as goal

abbrev pub decreases-instance_around : goal.decreases-instance_around
decreases-instance_around l = l.scope
