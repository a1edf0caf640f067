-- The parts so far stand together.
use Rattle.looseparts.specs.FoundGroups.{PartsStandTogether}
use Rattle.looseparts.proofs.find.put_together.Given as goal

abbrev pub invariant-loop-part : goal.invariant-loop-part
invariant-loop-part l = PartsStandTogether l.yielded l.all
