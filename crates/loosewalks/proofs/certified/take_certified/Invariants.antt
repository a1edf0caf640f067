-- Events were taken so far, with their notes.
use Rattle.std.proofs.Common.{◌≡◌}
use Rattle.model.specs.declared.end.Limits.{Limits}
use Rattle.loose.specs.Classes.{class_in}
use Rattle.loosewalks.specs.Certified.{TakesNoted}
use Rattle.loosewalks.proofs.certified.take_certified.Given as goal

abbrev pub invariant-loop : goal.invariant-loop
invariant-loop l = record {
  code : l.machine.code ≡ l.fn.machine.code;
  noted : (limits : Limits) → TakesNoted (class_in l.classes) limits l.fn.machine l.room.certificate l.room.way.items l.machine;
}
