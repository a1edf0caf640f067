-- The walk went on by none of the ways so far.
use Rattle.loose.specs.Classes.{class_in}
use Rattle.loosewalks.specs.Checkpoints.{AreOfCode, WalkGoesOn}
use Rattle.loosewalks.specs.TimeStops.{StillPassesTimeFirst}
use Rattle.loosewalks.proofs.walk.go_on.Given as goal

abbrev pub invariant-loop-way : goal.invariant-loop-way
invariant-loop-way l = record {
  code : AreOfCode l.fn.machine.code l.machine l.walk;
  on : WalkGoesOn (class_in l.scope.rules.classes.now) l.scope.rules.limits l.fn.machine l.fn.walk l.machine l.walk;
  time : StillPassesTimeFirst l.fn.walk l.walk;
}
