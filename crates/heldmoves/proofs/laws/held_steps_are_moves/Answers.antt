-- The steps of the others are moves.
use Rattle.heldmoves.proofs.OfOthers.{held_steps_are_moves, held_steps_have_swaps}
use Rattle.heldmoves.proofs.laws.held_steps_are_moves.Goals as goal

pub returns-clause-moves : goal.returns-clause-moves
returns-clause-moves c = held_steps_are_moves

pub returns-clause-swaps : goal.returns-clause-swaps
returns-clause-swaps c = held_steps_have_swaps
