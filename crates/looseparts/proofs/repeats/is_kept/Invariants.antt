-- Nothing is said of those so far.
use Rattle.looseparts.proofs.repeats.is_kept.Given as goal

abbrev pub invariant-loop-one : goal.invariant-loop-one
invariant-loop-one l = Unit {0}
