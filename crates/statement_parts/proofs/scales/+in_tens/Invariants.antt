use Rattle.statement_parts.proofs.scales.+in_tens.Given as goal

abbrev pub decreases-in_tens : goal.decreases-in_tens
decreases-in_tens l = l.power
