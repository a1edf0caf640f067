-- A scope in another one has less room.
use Rattle.routines.proofs.expansion.Expansion.+forget.Given as goal

abbrev pub decreases-forget : goal.decreases-forget
decreases-forget l = l.room
