-- A search whose nodes are covered is complete.
use Rattle.orders.proofs.SearchLaws.{one_node_goes_on, each_transition_covers, complete_shows_all}
use Rattle.orders.proofs.TimelyRuns.{unlimited_run_is_timely}
use Rattle.orders.proofs.laws.searches_are_complete.Goals as goal

pub returns-clause-goes_on : goal.returns-clause-goes_on
returns-clause-goes_on c = one_node_goes_on

pub returns-clause-covers : goal.returns-clause-covers
returns-clause-covers c = each_transition_covers

pub returns-clause-shows : goal.returns-clause-shows
returns-clause-shows c = complete_shows_all

pub returns-clause-timely : goal.returns-clause-timely
returns-clause-timely c = unlimited_run_is_timely
