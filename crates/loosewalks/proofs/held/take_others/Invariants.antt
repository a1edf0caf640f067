-- Events of others were taken so far, with their notes.
use Rattle.std.proofs.Common.{◌≡◌}
use Rattle.model.specs.declared.end.Limits.{Limits}
use Rattle.loose.specs.Classes.{class_in}
use Rattle.loosewalks.specs.Held.{TakesOthers}
use Rattle.loosewalks.proofs.held.take_others.Given as goal

abbrev pub invariant-loop : goal.invariant-loop
invariant-loop l = record {
  code : l.machine.code ≡ l.fn.machine.code;
  others : (limits : Limits) → TakesOthers (class_in l.classes) limits l.held l.fn.machine l.room.certificate l.room.way.items l.machine;
}
