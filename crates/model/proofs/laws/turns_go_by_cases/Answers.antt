-- The cases come to the same turn as the steps.
use Rattle.model.proofs.TurnCaseLaws.{turn_by_cases_is_exact, short_turn_by_cases_is_exact, turn_by_cases_is_unique, used_up_is_whole_again}
use Rattle.model.proofs.laws.turns_go_by_cases.Goals as goal

pub returns-clause-steps : goal.returns-clause-steps
returns-clause-steps c = turn_by_cases_is_exact

pub returns-clause-short : goal.returns-clause-short
returns-clause-short c = short_turn_by_cases_is_exact

pub returns-clause-unique : goal.returns-clause-unique
returns-clause-unique c = turn_by_cases_is_unique

pub returns-clause-whole : goal.returns-clause-whole
returns-clause-whole c = used_up_is_whole_again
