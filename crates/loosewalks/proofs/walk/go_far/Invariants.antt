-- The walk went on so far.
use Rattle.std.proofs.Common.{◌≡◌}
use Rattle.loose.specs.Classes.{class_in}
use Rattle.loosewalks.specs.declared.rules.WalkStops.TheVariants.{AtTime}
use Rattle.loosewalks.specs.Checkpoints.{AreOfCode, WalkGoesOn}
use Rattle.loosewalks.specs.TimeStops.{StillPassesTimeFirst}
use Rattle.loosewalks.proofs.walk.go_far.Given as goal

abbrev pub invariant-loop : goal.invariant-loop
invariant-loop l = record {
  code : AreOfCode l.fn.machine.code l.machine l.walk;
  on : WalkGoesOn (class_in l.scope.rules.classes.now) l.scope.rules.limits l.fn.machine l.fn.walk l.machine l.walk;
  time : l.scope.rules.stops ≡ AtTime → StillPassesTimeFirst l.fn.walk l.walk;
}
