-- The laws of arranged runs.
use Rattle.arrangedruns.proofs.Arranged.{alike_arranged_runs_serve, alike_held_arranged_are_alike, all_arranged_shown_are_all, arranged_endless_is_endless, arranged_runs_begin_silent}
use Rattle.arrangedruns.proofs.laws.arranged_runs_have_their_laws.Goals as goal

pub returns-clause-alike_arranged_runs_serve : goal.returns-clause-alike_arranged_runs_serve
returns-clause-alike_arranged_runs_serve g c = alike_arranged_runs_serve g.N.AnyArrangedNodes.holds g.N.AnyArrangedNodes.tail

pub returns-clause-alike_held_arranged_are_alike : goal.returns-clause-alike_held_arranged_are_alike
returns-clause-alike_held_arranged_are_alike g c = alike_held_arranged_are_alike g.N.AnyArrangedNodes.holds g.N.AnyArrangedNodes.tail

pub returns-clause-arranged_runs_begin_silent : goal.returns-clause-arranged_runs_begin_silent
returns-clause-arranged_runs_begin_silent g c = arranged_runs_begin_silent g.N.AnyArrangedNodes.holds g.N.AnyArrangedNodes.tail

pub returns-clause-all_arranged_shown_are_all : goal.returns-clause-all_arranged_shown_are_all
returns-clause-all_arranged_shown_are_all g c = all_arranged_shown_are_all g.N.AnyArrangedNodes.holds g.N.AnyArrangedNodes.tail

pub returns-clause-arranged_endless_is_endless : goal.returns-clause-arranged_endless_is_endless
returns-clause-arranged_endless_is_endless g c = arranged_endless_is_endless g.N.AnyArrangedNodes.holds g.N.AnyArrangedNodes.tail
