-- The laws of nodes, and of what is shown.
use Rattle.looseruns.proofs.LooseSearches as searches
use Rattle.looseruns.proofs.LooseGoing as going
use Rattle.looseruns.proofs.LooseCovering as covering
use Rattle.looseruns.proofs.ObservedSearches as observed_searches
use Rattle.looseruns.proofs.ObservedGoing as observed_going
use Rattle.looseruns.proofs.ObservedCovering as observed_covering
use Rattle.looseruns.proofs.ObservedEnding as ending
use Rattle.looseruns.proofs.laws.nodes_have_their_laws.Goals as goal

pub returns-clause-alike_loose_runs_serve : goal.returns-clause-alike_loose_runs_serve
returns-clause-alike_loose_runs_serve g c = searches.alike_loose_runs_serve g.N.AnyNodes.holds

pub returns-clause-alike_held_runs_are_alike : goal.returns-clause-alike_held_runs_are_alike
returns-clause-alike_held_runs_are_alike g c = searches.alike_held_runs_are_alike g.N.AnyNodes.holds

pub returns-clause-loose_runs_begin_silent : goal.returns-clause-loose_runs_begin_silent
returns-clause-loose_runs_begin_silent g c = searches.loose_runs_begin_silent g.N.AnyNodes.holds

pub returns-clause-all_loose_shown_are_all : goal.returns-clause-all_loose_shown_are_all
returns-clause-all_loose_shown_are_all g c = searches.all_loose_shown_are_all g.N.AnyNodes.holds

pub returns-clause-loose_endless_is_endless : goal.returns-clause-loose_endless_is_endless
returns-clause-loose_endless_is_endless g c = searches.loose_endless_is_endless g.N.AnyNodes.holds

pub returns-clause-moves_lead_to_next : goal.returns-clause-moves_lead_to_next
returns-clause-moves_lead_to_next g c = going.moves_lead_to_next g.N.AnyNodes.holds

pub returns-clause-moves_lead_to_end : goal.returns-clause-moves_lead_to_end
returns-clause-moves_lead_to_end g c = going.moves_lead_to_end g.N.AnyNodes.holds

pub returns-clause-covering_loose_is_covered : goal.returns-clause-covering_loose_is_covered
returns-clause-covering_loose_is_covered g c = covering.covering_loose_is_covered g.N.AnyNodes.holds

pub returns-clause-following_loose_is_covered : goal.returns-clause-following_loose_is_covered
returns-clause-following_loose_is_covered g c = covering.following_loose_is_covered g.N.AnyNodes.holds

pub returns-clause-alike_observed_runs_serve : goal.returns-clause-alike_observed_runs_serve
returns-clause-alike_observed_runs_serve g c = observed_searches.alike_observed_runs_serve g.N.AnyNodes.holds

pub returns-clause-alike_held_observed_are_alike : goal.returns-clause-alike_held_observed_are_alike
returns-clause-alike_held_observed_are_alike g c = observed_searches.alike_held_observed_are_alike g.N.AnyNodes.holds

pub returns-clause-observed_runs_begin_silent : goal.returns-clause-observed_runs_begin_silent
returns-clause-observed_runs_begin_silent g c = observed_searches.observed_runs_begin_silent g.N.AnyNodes.holds

pub returns-clause-all_observed_shown_are_all : goal.returns-clause-all_observed_shown_are_all
returns-clause-all_observed_shown_are_all g c = observed_searches.all_observed_shown_are_all g.N.AnyNodes.holds

pub returns-clause-observed_endless_is_endless : goal.returns-clause-observed_endless_is_endless
returns-clause-observed_endless_is_endless g c = observed_searches.observed_endless_is_endless g.N.AnyNodes.holds

pub returns-clause-observed_moves_lead_to_next : goal.returns-clause-observed_moves_lead_to_next
returns-clause-observed_moves_lead_to_next g c = observed_going.observed_moves_lead_to_next g.N.AnyNodes.holds

pub returns-clause-observed_moves_lead_to_end : goal.returns-clause-observed_moves_lead_to_end
returns-clause-observed_moves_lead_to_end g c = observed_going.observed_moves_lead_to_end g.N.AnyNodes.holds

pub returns-clause-observed_stands_again : goal.returns-clause-observed_stands_again
returns-clause-observed_stands_again g c = observed_going.observed_stands_again g.N.AnyNodes.holds

pub returns-clause-covering_observed_is_covered : goal.returns-clause-covering_observed_is_covered
returns-clause-covering_observed_is_covered g c = observed_covering.covering_observed_is_covered g.N.AnyNodes.holds

pub returns-clause-following_observed_is_covered : goal.returns-clause-following_observed_is_covered
returns-clause-following_observed_is_covered g c = observed_covering.following_observed_is_covered g.N.AnyNodes.holds

pub returns-clause-covering_to_finish_is_covered : goal.returns-clause-covering_to_finish_is_covered
returns-clause-covering_to_finish_is_covered g c = ending.covering_to_finish_is_covered g.N.AnyNodes.holds
