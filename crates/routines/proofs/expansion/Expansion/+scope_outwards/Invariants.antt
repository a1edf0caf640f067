-- The scope around one has a smaller number.
use Rattle.routines.proofs.expansion.Expansion.+scope_outwards.Given as goal

abbrev pub decreases-scope_outwards : goal.decreases-scope_outwards
decreases-scope_outwards l = l.scope
