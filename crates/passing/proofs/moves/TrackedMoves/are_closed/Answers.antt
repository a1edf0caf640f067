-- The moves of the list do.
use Rattle.std.proofs.Common.{subst}
use Rattle.passing.specs.Moves.{AllLeadThrough}
use Rattle.passing.proofs.moves.TrackedMoves.are_closed.Goals as goal

pub returns : goal.returns
returns c = λ on. subst AllLeadThrough c.deref.ensures.value (c.are_closed.ensures on)
