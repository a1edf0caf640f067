-- The indices so far are there, and the next one is at hand.
use Rattle.design_scopes.proofs.Indices.{AreIndices}
use Rattle.design_scopes.proofs.arrays.numbers_of.Given as goal

abbrev pub invariant-loop-turn : goal.invariant-loop-turn
invariant-loop-turn l = AreIndices l.range l.found.items l.index
