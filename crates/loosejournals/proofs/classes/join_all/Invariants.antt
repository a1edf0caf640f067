use Rattle.loosejournals.specs.Classes.{AreStillTogether}
use Rattle.loosejournals.proofs.Together.{AreBesideFirst}
use Rattle.loosejournals.proofs.classes.join_all.Given as goal

-- those so far are of the class of the first one
abbrev pub invariant-loop-register : goal.invariant-loop-register
invariant-loop-register l = record {
  kept : AreStillTogether l.fn.classes l.classes;
  beside : AreBesideFirst l.first l.registers l.classes l.register-index;
}
