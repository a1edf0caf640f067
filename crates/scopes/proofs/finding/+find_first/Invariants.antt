-- Each scope stands behind the one around it.
use Rattle.scopes.proofs.finding.+find_first.Given as goal

abbrev pub decreases-find_first : goal.decreases-find_first
decreases-find_first l = l.scope
