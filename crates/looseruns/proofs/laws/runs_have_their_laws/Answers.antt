-- The laws of transitions and of runs.
use Rattle.looseruns.proofs.Moves as moves
use Rattle.looseruns.proofs.LooseGoing as going
use Rattle.looseruns.proofs.LooseCovering as covering
use Rattle.looseruns.proofs.ObservedSearches as observed_searches
use Rattle.looseruns.proofs.RegistersSeen as registers
use Rattle.looseruns.proofs.SightLines as lines
use Rattle.looseruns.proofs.AsciiLines as ascii
use Rattle.looseruns.proofs.Sights as sights
use Rattle.looseruns.proofs.ObservedGoing as observed_going
use Rattle.looseruns.proofs.PassingTime as passing
use Rattle.looseruns.proofs.ObservedCovering as observed_covering
use Rattle.looseruns.proofs.ObservedSole as sole
use Rattle.looseruns.proofs.laws.runs_have_their_laws.Goals as goal

pub returns-clause-alike_in_states_move_alike : goal.returns-clause-alike_in_states_move_alike
returns-clause-alike_in_states_move_alike c = moves.alike_in_states_move_alike

pub returns-clause-one_loose_node_moves_on : goal.returns-clause-one_loose_node_moves_on
returns-clause-one_loose_node_moves_on c = moves.one_loose_node_moves_on

pub returns-clause-entry_has_transition : goal.returns-clause-entry_has_transition
returns-clause-entry_has_transition c = moves.entry_has_transition

pub returns-clause-move_is_loose_step : goal.returns-clause-move_is_loose_step
returns-clause-move_is_loose_step c = moves.move_is_loose_step

pub returns-clause-loose_step_has_move : goal.returns-clause-loose_step_has_move
returns-clause-loose_step_has_move c = moves.loose_step_has_move

pub returns-clause-transition_is_timely : goal.returns-clause-transition_is_timely
returns-clause-transition_is_timely c = moves.transition_is_timely

pub returns-clause-moves_are_loose_run : goal.returns-clause-moves_are_loose_run
returns-clause-moves_are_loose_run c = moves.moves_are_loose_run

pub returns-clause-loose_run_has_moves : goal.returns-clause-loose_run_has_moves
returns-clause-loose_run_has_moves c = moves.loose_run_has_moves

pub returns-clause-moves_keep_order : goal.returns-clause-moves_keep_order
returns-clause-moves_keep_order c = moves.moves_keep_order

pub returns-clause-no_move_stays : goal.returns-clause-no_move_stays
returns-clause-no_move_stays c = going.no_move_stays

pub returns-clause-loose_step_goes_on : goal.returns-clause-loose_step_goes_on
returns-clause-loose_step_goes_on c = going.loose_step_goes_on

pub returns-clause-loose_ways_go_on : goal.returns-clause-loose_ways_go_on
returns-clause-loose_ways_go_on c = going.loose_ways_go_on

pub returns-clause-followed_moves_cover : goal.returns-clause-followed_moves_cover
returns-clause-followed_moves_cover c = covering.followed_moves_cover

pub returns-clause-covering_moves_cover : goal.returns-clause-covering_moves_cover
returns-clause-covering_moves_cover c = covering.covering_moves_cover

pub returns-clause-observed_run_is_run : goal.returns-clause-observed_run_is_run
returns-clause-observed_run_is_run c = observed_searches.observed_run_is_run

pub returns-clause-nothing_seen_is_plain : goal.returns-clause-nothing_seen_is_plain
returns-clause-nothing_seen_is_plain c = observed_searches.nothing_seen_is_plain

pub returns-clause-registers_are_seen_alike : goal.returns-clause-registers_are_seen_alike
returns-clause-registers_are_seen_alike c = registers.registers_are_seen_alike

pub returns-clause-unfinished_are_seen_alike : goal.returns-clause-unfinished_are_seen_alike
returns-clause-unfinished_are_seen_alike c = registers.unfinished_are_seen_alike

pub returns-clause-unfinished_text_is_text : goal.returns-clause-unfinished_text_is_text
returns-clause-unfinished_text_is_text c = registers.unfinished_text_is_text

pub returns-clause-sights_tell_registers : goal.returns-clause-sights_tell_registers
returns-clause-sights_tell_registers c = lines.sights_tell_registers

pub returns-clause-ascii_designs_print_no_mark : goal.returns-clause-ascii_designs_print_no_mark
returns-clause-ascii_designs_print_no_mark c = ascii.ascii_designs_print_no_mark

pub returns-clause-one_text_is_one_wave : goal.returns-clause-one_text_is_one_wave
returns-clause-one_text_is_one_wave c = sights.one_text_is_one_wave

pub returns-clause-no_observed_move_stays : goal.returns-clause-no_observed_move_stays
returns-clause-no_observed_move_stays c = observed_going.no_observed_move_stays

pub returns-clause-observed_step_goes_on : goal.returns-clause-observed_step_goes_on
returns-clause-observed_step_goes_on c = observed_going.observed_step_goes_on

pub returns-clause-loose_way_is_observed : goal.returns-clause-loose_way_is_observed
returns-clause-loose_way_is_observed c = observed_going.loose_way_is_observed

pub returns-clause-observed_ways_go_on : goal.returns-clause-observed_ways_go_on
returns-clause-observed_ways_go_on c = observed_going.observed_ways_go_on

pub returns-clause-time_passes_alone : goal.returns-clause-time_passes_alone
returns-clause-time_passes_alone c = passing.time_passes_alone

pub returns-clause-followed_moves_cover_observed : goal.returns-clause-followed_moves_cover_observed
returns-clause-followed_moves_cover_observed c = observed_covering.followed_moves_cover_observed

pub returns-clause-covering_moves_cover_observed : goal.returns-clause-covering_moves_cover_observed
returns-clause-covering_moves_cover_observed c = observed_covering.covering_moves_cover_observed

pub returns-clause-covering_moves_are_observed : goal.returns-clause-covering_moves_are_observed
returns-clause-covering_moves_are_observed c = sole.covering_moves_are_observed

pub returns-clause-observed_moves_cover : goal.returns-clause-observed_moves_cover
returns-clause-observed_moves_cover c = sole.observed_moves_cover

pub returns-clause-observed_sole_ways_go_on : goal.returns-clause-observed_sole_ways_go_on
returns-clause-observed_sole_ways_go_on c = sole.observed_sole_ways_go_on
