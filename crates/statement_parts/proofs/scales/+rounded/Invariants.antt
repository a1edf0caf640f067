use Rattle.statement_parts.proofs.scales.+rounded.Given as goal

abbrev pub decreases-rounded : goal.decreases-rounded
decreases-rounded l = l.power
