-- Each scope stands behind the one around it.
use Rattle.scopes.proofs.finding.+find.Given as goal

abbrev pub decreases-find : goal.decreases-find
decreases-find l = l.scope
