-- Events were taken on so far.
use Rattle.std.proofs.Common.{◌≡◌}
use Rattle.loose.specs.Classes.{class_in}
use Rattle.loosewalks.specs.Held.{TakesOn}
use Rattle.loosewalks.proofs.phase.take_on.Given as goal

abbrev pub invariant-loop : goal.invariant-loop
invariant-loop l = record {
  code : l.machine.code ≡ l.fn.machine.code;
  on : TakesOn (class_in l.classes) l.fn.machine l.fn.way.items l.machine l.way.items;
}
