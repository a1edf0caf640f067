-- Loose steps are moves.
use Rattle.footprints.proofs.LooseMoves.{loose_steps_are_moves}
use Rattle.footprints.proofs.Swaps.{loose_steps_have_swaps}
use Rattle.footprints.proofs.WaitingActors.{waiting_moves}
use Rattle.footprints.proofs.MoveRuns.{moves_are_runs, runs_are_moves}
use Rattle.footprints.proofs.laws.loose_steps_are_moves.Goals as goal

pub returns-clause-moves : goal.returns-clause-moves
returns-clause-moves c = loose_steps_are_moves

pub returns-clause-swaps : goal.returns-clause-swaps
returns-clause-swaps c = loose_steps_have_swaps

pub returns-clause-waiting : goal.returns-clause-waiting
returns-clause-waiting c = waiting_moves

pub returns-clause-runs : goal.returns-clause-runs
returns-clause-runs c = moves_are_runs

pub returns-clause-back : goal.returns-clause-back
returns-clause-back c = runs_are_moves
