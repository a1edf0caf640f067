-- The way was gone so far.
use Rattle.std.proofs.Common.{◌≡◌, take}
use Rattle.loose.specs.Classes.{class_in}
use Rattle.looseparts.specs.GoneWays.{IsWayGone}
use Rattle.looseparts.proofs.repeats.go.Given as goal

abbrev pub invariant-loop-actor : goal.invariant-loop-actor
invariant-loop-actor l = record {
  gone : IsWayGone (class_in l.classes) l.fn.machine (take l.actor-index l.way) l.machine;
  code : l.machine.code ≡ l.fn.machine.code;
}
