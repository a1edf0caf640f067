-- The moves from the values that were looked at are there.
use Rattle.std.proofs.Common.{◌<◌, ℕ, get_or}
use Rattle.logic4.specs.Vector.{Vector}
use Rattle.passing.proofs.ChosenMoves.{AreChosenFrom}
use Rattle.passing.proofs.choices.add_all.Given as goal

abbrev pub invariant-loop-place : goal.invariant-loop-place
invariant-loop-place l = (k : ℕ) (d : Vector) → k < l.place → AreChosenFrom l.moves l.register l.values l.choices.items (get_or l.values k d)
