-- The first assignments are noted.
use Rattle.std.proofs.Common.{◌≡◌, ◌++◌, map, take}
use Rattle.turn.specs.TurnLogs.{assignment_of}
use Rattle.footprints.specs.Footprints.{assigned}
use Rattle.loose.specs.Classes.{class_in}
use Rattle.noted.proofs.turns.note_assigns.Given as goal

abbrev pub invariant-loop-nba : goal.invariant-loop-nba
invariant-loop-nba l = l.assigns.items ≡ l.fn.assigns.items ++ assigned (class_in l.classes) (map assignment_of (take l.nba-index l.nbas))
