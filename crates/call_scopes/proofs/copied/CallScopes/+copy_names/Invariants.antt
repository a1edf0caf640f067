-- A scope in another one has less room.
use Rattle.call_scopes.proofs.copied.CallScopes.+copy_names.Given as goal

abbrev pub decreases-copy_names : goal.decreases-copy_names
decreases-copy_names l = l.room
