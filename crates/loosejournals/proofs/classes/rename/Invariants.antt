use Rattle.loosejournals.proofs.Renaming.{AreRenamedTo}
use Rattle.loosejournals.proofs.classes.rename.Given as goal

-- those so far have their new names
abbrev pub invariant-loop-at : goal.invariant-loop-at
invariant-loop-at l = AreRenamedTo l.from l.to l.fn.classes l.classes l.at
